use Rattle.std.proofs.Common.{◌≡◌, ◌<◌, ◌-◌, ◌++◌, [], ◌∷◌, ℕ, List, rules, length, map, take, drop, refl, sym, ◌∙◌, ap, subst}
use Rattle.ftl0_session.specs.Downloads.View.{state_of}
use Rattle.ftl0_session.specs.declared.downloads.downloads.Phase.{Phase}
use Rattle.ftl0_session.proofs.Names.{append-nil, store_in, store_on, is_read, joined, octets_due, due_of, kept, listing, Span}
use Rattle.ftl0_session.proofs.downloads.DueLemmas.{first-left, read-some}
use Rattle.ftl0_session.proofs.downloads.ReadsLemmas.{at_error}
use Rattle.ftl0_session.proofs.downloads.downloads.Downloads.read_part.Goals as goal

pub returns-in_err-self-inside-in-ListingLong-clause-read : goal.returns-in_err-self-inside-in-ListingLong-clause-read
returns-in_err-self-inside-in-ListingLong-clause-read g c =
    let store = store_in c.args.store.now in
    let headers = c.self.inside.headers.items in
    let state : c.args.self.now ≡ listing (map due_of headers) =
    sym c.self.view_is ∙ ap (λ (p : Phase). state_of p c.self.inside.short_forms.items c.self.inside.sent headers) c.in-ListingLong.is in
    let some : 0 < length (joined store (map due_of headers)) =
    subst (λ (spans : List Span). 0 < length (joined store (map due_of spans))) c.deref-in-ListingLong.ensures.0 c.in_err-self-inside-in-ListingLong.ensures.some in
    at_error c.from_residual-in_err-self-inside-in-ListingLong.result (ap is_read state ∙ read-some store due_of headers (λ x. refl) some)

pub returns-in-ListingShort-clause-octets : goal.returns-in-ListingShort-clause-octets
returns-in-ListingShort-clause-octets g c = λ known.
    let store = store_on g.D.Disk c.args.store.now c.args.disk.now in
    let forms = c.self.inside.short_forms.items in
    let left = drop c.self.inside.sent forms in
    let state : c.args.self.now ≡ listing (kept left ∷ []) =
    sym c.self.view_is ∙ ap (λ (p : Phase). state_of p forms c.self.inside.sent c.self.inside.headers.items) c.in-ListingShort.is in
    let due : octets_due store c.args.self.now ≡ left = ap (octets_due store) state ∙ append-nil left in
    let shown = c.deref.result.now in
    let first : List ℕ = take c.min-count.result (take (length shown - c.self.inside.sent) (drop c.self.inside.sent shown)) in
    let ext : c.try_extend_from_slice.new.self.items ≡ c.args.part.now.items ++ first = search rules in
    ext ∙ ap (λ (l : List ℕ). l ++ first) c.requires.empty
    ∙ first-left forms shown c.self.inside.sent c.min-count.result c.deref.ensures.0 c.min-count.ensures
    ∙ ap (λ l. take 254 l) (sym due)
