use Rattle.std.proofs.Common.{Option, sym, subst}
use Rattle.file_store_model.proofs.Names.{IfSome, HeaderText, HeaderValue, HasEachOnce}
use Rattle.file_store_model.proofs.HeadersLemmas.{header-there, items-header}
use Rattle.file_store_model.proofs.header.header_in.Goals as goal
use Rattle.file_store_model.proofs.header.header_in.Goals.{After-unwrap}

pub unwrap-requires : goal.unwrap-requires
unwrap-requires c = header-there c.of.result c.args.octets.now c.of.ensures.none c.requires

text : (c : After-unwrap) → HeaderText c.unwrap.result.items c.args.octets.now
text c = subst (λ (o : Option HeaderValue). IfSome o (λ h. HeaderText h.items c.args.octets.now)) c.unwrap.ensures c.of.ensures.some

pub returns-clause-items : goal.returns-clause-items
returns-clause-items c = sym (items-header c.unwrap.result.items c.args.octets.now (text c))

pub returns-clause-text : goal.returns-clause-text
returns-clause-text c = text c

pub returns-clause-once : goal.returns-clause-once
returns-clause-once c = subst HasEachOnce (items-header c.unwrap.result.items c.args.octets.now (text c)) c.requires.once
