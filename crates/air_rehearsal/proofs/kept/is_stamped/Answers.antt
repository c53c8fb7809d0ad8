-- The octets say a moment, and the file that is stamped with that is them.
use Rattle.std.proofs.Common.{◌≡◌, ℕ, List, length, drop, ap, sym, ◌∙◌, rules}
use Rattle.air_rehearsal.proofs.Names.{IsCall, le32, le32_octets, stamped}
use Rattle.air_rehearsal.proofs.KeptLemmas.{written}
use Rattle.air_rehearsal.proofs.StampedTime.{stamped-again, upload-says}
use Rattle.air_rehearsal.proofs.kept.is_stamped.Goals as goal

pub returns-in_default : goal.returns-in_default
returns-in_default c upload is =
    let call : IsCall c.args.caller = search rules in
    let says =
    upload-says c.args.file c.args.octets.now c.args.number c.args.caller c.upload_time.result call upload is
    c.upload_time.ensures
    in
    absurd (c.in_default.not-Some _ says)

pub returns : goal.returns
returns c upload is =
    let call : IsCall c.args.caller = search rules in
    let says =
    upload-says c.args.file c.args.octets.now c.args.number c.args.caller c.upload_time.result call upload is
    c.upload_time.ensures
    in
    let moment : c.in-Some.moment ≡ le32 (le32_octets is.moment) 0 = cc in
    let before : c.as_mut_slice.result.now ≡ c.args.file = search rules in
    let all : length c.stamp.new.file ≡ c.into_vec-file.result.len = c.stamp.auto.file ∙ c.as_mut_slice.ensures.len in
    let after : c.as_slice-2.result.now ≡ c.stamp.new.file =
    c.as_slice-2.ensures.value
    ∙ written c.into_vec-file.result.len c.stamp.new.file (drop (length c.stamp.new.file) c.into_vec-file.result.items) all
    in
    let stamped_file =
    c.stamp.ensures.computed
    ∙ ap (λ (file : List ℕ). stamped (record { number = c.args.number; by = c.args.caller; moment = c.in-Some.moment }) file)
    before
    ∙ ap (λ (at : ℕ). stamped (record { number = c.args.number; by = c.args.caller; moment = at }) c.args.file) moment
    ∙ stamped-again c.args.number c.args.caller is.moment c.args.file
    in
    let same : c.as_slice-2.result.now ≡ c.args.octets.now = after ∙ stamped_file ∙ sym is.octets_are in
    search rules
