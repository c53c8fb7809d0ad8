-- What a job that uploads a file has said, by how far it has come.
use Rattle.std.proofs.Common.{◌≡◌, ℕ, ◌+◌, ◌-◌, List, [], ◌∷◌, ◌++◌, Bool, true, false, length, take, drop, min, Option}
use Rattle.std.proofs.Common.{None, Some, Ok, Err, refl, sym, ◌∙◌, ap, subst, arith}
use Rattle.std.specs.Prelude.{◌==◌, if◌then◌else◌}
use Rattle.ftl0_client_job.specs.declared.phases.UploadPhase.TheVariants as phase
use Rattle.ftl0_client_job.specs.declared.work.Work.TheVariants as work
use Rattle.ftl0_client_job.specs.Due.{most_data, next_due}
use Rattle.air_world.proofs.files.Names.{option_map, nat_tests, length-drop, length-take, same_Some, kind_of_item, Item, PacketValue, data_end, data_part, ul_go_resp, upload_cmd, Lists, Ending, UploadPhase, Work, DuePacket, due_by, due_from, due_in, in_job, in_work, Row, JobState, item_row, job_after, new_job, row_of, Upload, new_upload, upload_row, JobEntry, after_losing, lost, queued, took, IsTaken, JobReaches, one-last, one-left}
use Rattle.air_world.proofs.files.JobReach.{Stays, of-reached}
use Rattle.air_world.proofs.files.JobUploadRows.{UploadCases, upload-cases, upload_at}
use Rattle.air_world.proofs.files.JobUploadCame.{CameTo, DoesUpload, GoesTo, NeverFetched, SendsTo, goes-end, goes-more}
use Rattle.air_world.proofs.files.JobUploadCame.{known-some, may-go, said-one, take-length}

-- ---- what is due

-- what is due of a job that uploads
pub record IsDueOf (task known : ℕ) (file : List ℕ) (job : JobState) (due : DuePacket JobState)
    (p : UploadPhase) : Type 0 where
  pub none : job.ending ≡ None
  pub number : ℕ
  pub place : ℕ
  pub phase_is : p ≡ phase.Sending number place
  pub due_is : due ≡ in_job (in_work (due_from (upload_at task known file (phase.Sending number place)) number place))

pub due-of : (task known : ℕ) (file : List ℕ) (job : JobState) (due : DuePacket JobState) (p : UploadPhase)
    → job.work ≡ work.Upload (upload_at task known file p)
    → next_due job ≡ Some due → IsDueOf task known file job due p
due-of task known file job due p is next =
    by job.ending refl p is (ap (λ (doing : Work). due_by job.ending doing) (sym is) ∙ next)
  where
    by : (o : Option Ending) → job.ending ≡ o → (p : UploadPhase) → job.work ≡ work.Upload (upload_at task known file p)
        → due_by job.ending (work.Upload (upload_at task known file p)) ≡ Some due → IsDueOf task known file job due p
    by (Some ending) ended p is next =
        absurd (let none = ap (λ (o : Option Ending). due_by o (work.Upload (upload_at task known file p))) (sym ended)
        ∙ next in cc none)
    by None unended p is next =
        at p (ap (λ (o : Option Ending). due_by o (work.Upload (upload_at task known file p))) (sym unended) ∙ next)
      where
        at : (p : UploadPhase)
            → option_map in_job (option_map in_work (due_in p (upload_at task known file p))) ≡ Some due
            → IsDueOf task known file job due p
        at phase.Login next = absurd (cc next)
        at phase.Go next = absurd (cc next)
        at (phase.Sending number place) next = record {
          none = unended;
          number = number;
          place = place;
          phase_is = refl;
          due_is =
              sym (same_Some (in_job (in_work (due_from
              (upload_at task known file (phase.Sending number place)) number place))) due next);
        }
        at (phase.Ack number) next = absurd (cc next)

-- ---- entry by entry

module _ (task known : ℕ) (file : List ℕ) where
  abbrev Does : List JobEntry → JobState → Type 0
  Does es job = DoesUpload task known file es job

  abbrev ItemRow : Lists → UploadPhase → Item → Row Work
  ItemRow lists p item = item_row lists (work.Upload (upload_at task known file p)) item

  -- the row leaves the upload of the same file, and fetches nothing
  abbrev IsSame : UploadPhase → PacketValue → Row Upload → Type 0
  IsSame p packet row = (now : UploadPhase) × (row.state ≡ upload_at task known file now) × NeverFetched row.ending

  same-upload : (p : UploadPhase) (packet : PacketValue)
      → IsSame p packet (upload_row (upload_at task known file p) packet)
  same-upload p packet = upload-cases task known file IsSame cases p packet
    where
      cases : UploadCases task known file IsSame
      cases = record {
        strange_rows = λ p packet kind none. (p, refl, λ number is. cc is);
        login = λ moment flags. (phase.Go, refl, tt);
        go = λ number offset may. (phase.Sending number offset, refl, tt);
        complete = λ code is. (phase.Go, refl, λ number is. cc is);
        refused_go = λ code. (phase.Go, refl, λ number is. cc is);
        broken_off = λ number place code. (phase.Sending number place, refl, λ number is. cc is);
        ack = λ number. (phase.Ack number, refl, λ number is. cc is);
        refused_ack = λ number code. (phase.Ack number, refl, λ number is. cc is);
      }

  pub same-item : (lists : Lists) (p : UploadPhase) (item : Item)
      → (now : UploadPhase) × ((ItemRow lists p item).state ≡ work.Upload
      (upload_at task known file now)) × NeverFetched (ItemRow lists p item).ending
  same-item lists p (Ok packet) = let same = same-upload p packet in (same.0, ap work.Upload same.1, same.2)
  same-item lists p (Err malformed) = (p, refl, λ number is. cc is)

  -- a packet that goes on with the job leaves it so far
  module _ (es : List JobEntry) where
    abbrev Comes : UploadPhase → PacketValue → Row Upload → Type 0
    Comes p packet row =
        CameTo p known file es → row.ending ≡ None
        → (now : UploadPhase) × (row.state ≡ upload_at task known file now) × CameTo now known file
        (es ++ took (Ok packet) (row_of work.Upload row) ∷ [])

    come-cases : UploadCases task known file Comes
    come-cases = record {
      strange_rows = λ p packet kind none came goes. absurd (cc goes);
      login =
          λ moment flags came goes. (
            phase.Go,
            refl,
            (said-one es _ ∙ ap (λ (l : List PacketValue). l ++ upload_cmd known (length file) ∷ []) came),
          );
      go = λ number offset may came goes.
          let is = may-go (known == 0) known number offset (length file) may (known-some known) in (
            phase.Sending number offset,
            refl,
            record {
              some = is.0;
              within = is.1;
              offset = offset;
              packets = [];
              said = said-one es _ ∙ ap (λ (l : List PacketValue). l ++ []) came;
              took = one-last (IsTaken (Ok (ul_go_resp number offset))) es _ refl;
              goes = refl;
            },
          );
      complete = λ code is came goes. absurd (cc goes);
      refused_go = λ code came goes. absurd (cc goes);
      broken_off = λ number place code came goes. absurd (cc goes);
      ack = λ number came goes. absurd (cc goes);
      refused_ack = λ number code came goes. absurd (cc goes);
    }

    comes : (p : UploadPhase) (packet : PacketValue) → Comes p packet (upload_row (upload_at task known file p) packet)
    comes p packet = upload-cases task known file Comes come-cases p packet

    takes : (p : UploadPhase) (o : Option Ending) (lists : Lists) (item : Item) → CameTo p known file es
        → (ItemRow lists p item).ending ≡ o
        → Does (es ++ took item (ItemRow lists p item) ∷ []) (job_after (ItemRow lists p item))
    takes p (Some ending) lists item came is =
        let same = same-item lists p item in
        record {
          phase_is = same.0;
          work_is = same.1;
          came = λ none. absurd (let no : Some ending ≡ None = sym is ∙ none in cc no);
          ended = same.2;
        }
    takes p None lists (Err malformed) came is = absurd (cc is)
    takes p None lists (Ok packet) came is =
        let next = comes p packet came is in
        record {
          phase_is = next.0;
          work_is = ap work.Upload next.1;
          came = λ none. next.2;
          ended = (same-upload p packet).2;
        }

    -- what is due, by whether octets are left
    abbrev due_by_left : ℕ → ℕ → Bool → DuePacket Upload
    due_by_left number place b =
        if b then record { packet = data_end; state = upload_at task known file (phase.Ack number) }
        else record {
          packet = data_part (take most_data (drop place file));
          state = upload_at task known file (phase.Sending number (place + min most_data (length file - place)));
        }

    -- it goes on with the file
    dues : (number place : ℕ) (b : Bool) → SendsTo known file es number place → (length (drop place file) == 0) ≡ b
        → (now : UploadPhase)
        × ((due_by_left number place b).state ≡ upload_at task known file now)
        × CameTo now known file (es ++ queued (in_job (in_work (due_by_left number place b))) ∷ [])
    dues number place true sends none =
        let dropped : length (drop place file) ≡ length file - place = length-drop place file in
        let within = sends.within in
        let at_end : place ≡ length file = grind (arith, nat_tests) in (
          phase.Ack number,
          refl,
          record {
            some = sends.some;
            offset = sends.offset;
            packets = sends.packets ++ data_end ∷ [];
            said = said-one es _ ∙ ap (λ (l : List PacketValue). l ++ data_end ∷ []) sends.said;
            took = one-left (IsTaken (Ok (ul_go_resp number sends.offset))) es _ sends.took;
            goes_on =
                goes-end file sends.packets sends.offset
                (subst (λ (n : ℕ). GoesTo file sends.offset sends.packets n) at_end sends.goes);
          },
        )
    dues number place false sends some =
        let octets : List ℕ = take most_data (drop place file) in
        let dropped : length (drop place file) ≡ length file - place = length-drop place file in
        let taken : length octets ≡ min most_data (length (drop place file)) =
        length-take most_data (drop place file) in
        let within = sends.within in
        let after : place + length octets ≡ place + min most_data (length file - place) =
        ap (λ (n : ℕ). place + n) (taken ∙ ap (min most_data) dropped) in (
          phase.Sending number (place + min most_data (length file - place)),
          refl,
          record {
            some = sends.some;
            within = omega arith;
            offset = sends.offset;
            packets = sends.packets ++ data_part octets ∷ [];
            said = said-one es _ ∙ ap (λ (l : List PacketValue). l ++ data_part octets ∷ []) sends.said;
            took = one-left (IsTaken (Ok (ul_go_resp number sends.offset))) es _ sends.took;
            goes =
                subst (λ (n : ℕ). GoesTo file sends.offset (sends.packets ++ data_part octets ∷ []) n) after
                (goes-more file sends.packets sends.offset place octets sends.goes
                (take-length most_data (drop place file)));
          },
        )

  pub stays : Stays Does
  stays = record {
    taking = λ es job lists item none does.
        let is = ap (λ (doing : Work). item_row lists doing item) does.work_is in
        subst (λ (r : Row Work). Does (es ++ took item r ∷ []) (job_after r)) (sym is)
        (takes es does.phase_is (ItemRow lists does.phase_is item).ending lists item (does.came none) refl);
    losing = λ es job lists item none does.
        let is = ap (λ (doing : Work). item_row lists doing item) does.work_is in
        let same = same-item lists does.phase_is item in
        subst (λ (r : Row Work). Does (es ++ lost item r ∷ []) (after_losing (kind_of_item item) r)) (sym is)
        (record { phase_is = same.0; work_is = same.1; came = λ none. absurd (cc none); ended = λ number is. cc is });
    passing =
        λ es job item ended does. record {
          phase_is = does.phase_is;
          work_is = does.work_is;
          came = λ none. absurd (ended none);
          ended = does.ended;
        };
    queuing = λ es job due next does.
        let is = due-of task known file job due does.phase_is does.work_is next in
        let sends : SendsTo known file es is.number is.place =
        subst (λ (p : UploadPhase). CameTo p known file es) is.phase_is (does.came is.none) in
        let to = dues es is.number is.place (length (drop is.place file) == 0) sends refl in
        subst (λ (d : DuePacket JobState). Does (es ++ queued d ∷ []) d.state) (sym is.due_is)
        (record { phase_is = to.0; work_is = ap work.Upload to.1; came = λ none. to.2; ended = tt });
  }

  -- how far an upload came
  pub does-upload : (es : List JobEntry) (job : JobState)
      → JobReaches (new_job (work.Upload (new_upload task known file))) es job → Does es job
  does-upload es job reached =
      of-reached Does stays es (new_job (work.Upload (new_upload task known file))) job
      (record { phase_is = phase.Login; work_is = refl; came = λ none. refl; ended = tt }) reached
