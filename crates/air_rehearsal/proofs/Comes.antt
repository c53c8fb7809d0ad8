-- Which part a client has in an event, in whichever world the event may come.
use Rattle.std.specs.Prelude.{◌≡◌}
use Rattle.std.proofs.Common.{sym, ap, ◌∙◌, subst}
use Rattle.ftl0_client.specs.Client.{hears, ticks}
use Rattle.ftl0_client_job.specs.Directory.{new_directory}
use Rattle.ftl0_client_job.specs.declared.work.Work.TheVariants as work
use Rattle.air_world.specs.Attempts.Party.{Party}
use Rattle.air_world.specs.Events.{asking}
use Rattle.air_rehearsal.specs.declared.part.Part.TheVariants as stored
use Rattle.air_rehearsal.proofs.Names.{ℕ, zero, suc, List, Some, refl, new_download, new_upload, file_of_task, to_client_delivered, part_with, with_current, ask_download, ask_list, ask_resume, tick_client, to_client, World, ComesAlways, ComesTo, numbered, IsLastGoing, IsSeat, Seat, PlaysParty, PlaysStations, Part, Party as StoredParty, Stations}
use Rattle.air_rehearsal.proofs.AllowedLemmas.{has-party}

pub list_comes :
    (stations : Stations) (number c : ℕ) (tokens : List ℕ) (part : Part) → number ≡ suc c → part ≡ stored.List tokens
    → ComesAlways stations (ask_list number tokens) c part
list_comes stations zero c tokens part number_is part_is world sound plays allowed =
    absurd (let e : zero ≡ suc c = number_is in cc)
list_comes stations (suc place) c tokens part number_is part_is world sound plays allowed =
    subst (λ (p : Part). ComesTo world (ask_list (suc place) tokens) c p) (sym part_is)
    (subst (λ (n : ℕ). ComesTo world (ask_list (suc place) tokens) n (stored.List tokens))
    (let same : suc place ≡ suc c = number_is in cc)
    (record {
      party = allowed.possible.0;
      is_party = allowed.possible.1;
      whole = asking allowed.possible.0 (work.Directory (new_directory tokens));
      takes = (refl, (allowed.possible.0, allowed.possible.1, refl));
      is_part = refl;
      none_asked = refl;
      asks_so = refl;
    }))

pub download_comes :
    (stations : Stations) (number c file : ℕ) (part : Part) → number ≡ suc c → part ≡ stored.Download file
    → ComesAlways stations (ask_download number file) c part
download_comes stations zero c file part number_is part_is world sound plays allowed =
    absurd (let e : zero ≡ suc c = number_is in cc)
download_comes stations (suc place) c file part number_is part_is world sound plays allowed =
    subst (λ (p : Part). ComesTo world (ask_download (suc place) file) c p) (sym part_is)
    (subst (λ (n : ℕ). ComesTo world (ask_download (suc place) file) n (stored.Download file))
    (let same : suc place ≡ suc c = number_is in cc)
    (record {
      party = allowed.possible.0;
      is_party = allowed.possible.1;
      whole = asking allowed.possible.0 (work.Download (new_download allowed.possible.0.client.server file));
      takes = (refl, (allowed.possible.0, allowed.possible.1, refl));
      is_part = refl;
      none_asked = refl;
      asks_so = refl;
    }))

pub tick_comes :
    (stations : Stations) (number c : ℕ) (part : Part) → number ≡ suc c → part ≡ stored.Tick
    → ComesAlways stations (tick_client number) c part
tick_comes stations zero c part number_is part_is world sound plays allowed =
    absurd (let e : zero ≡ suc c = number_is in cc)
tick_comes stations (suc place) c part number_is part_is world sound plays allowed =
    subst (λ (p : Part). ComesTo world (tick_client (suc place)) c p) (sym part_is)
    (subst (λ (n : ℕ). ComesTo world (tick_client (suc place)) n stored.Tick)
    (let same : suc place ≡ suc c = number_is in cc)
    (record {
      party = allowed.possible.0;
      is_party = allowed.possible.1;
      whole = part_with allowed.possible.0 ticks;
      takes = (refl, (allowed.possible.0, allowed.possible.1, refl));
      is_part = refl;
      none_asked = refl;
      asks_so = refl;
    }))

pub hear_comes :
    (stations : Stations) (number c transmission place : ℕ) (part : Part) → number ≡ suc c
    → transmission ≡ suc place → part ≡ stored.Hear place → ComesAlways stations (to_client number transmission) c part
hear_comes stations zero c transmission place part number_is transmission_is part_is world sound plays allowed =
    absurd (let e : zero ≡ suc c = number_is in cc)
hear_comes stations (suc at) c zero place part number_is transmission_is part_is world sound plays allowed =
    absurd (let e : zero ≡ suc place = transmission_is in cc)
hear_comes stations (suc at) c (suc sent) place part number_is transmission_is part_is world sound plays allowed =
    let it = allowed.possible in
    let may = it.2 in
    subst (λ (p : Part). ComesTo world (to_client (suc at) (suc sent)) c p) (sym part_is)
    (subst (λ (n : ℕ). ComesTo world (to_client (suc at) (suc sent)) n (stored.Hear place))
    (let same : suc at ≡ suc c = number_is in cc)
    (subst (λ (p : ℕ). ComesTo world (to_client (suc at) (suc sent)) at (stored.Hear p))
    (let same : suc sent ≡ suc place = transmission_is in cc)
    (record {
      party = it.0;
      is_party = it.1;
      whole = part_with (with_current (to_client_delivered sent may.1) it.0) (hears may.1.frame);
      takes = (
        refl,
        (
          it.0,
          it.1,
          record {
            t = may.1;
            sent = record { attempt = may.0; current = may.2; is_at = may.3.sent };
            part_is = refl;
          },
        ),
      );
      is_part =
          record {
            t = may.1;
            sent = record { attempt = may.0; current = may.2; is_at = may.3.sent };
            part_is = refl;
          };
      none_asked = refl;
      asks_so = refl;
    })))

-- The client's last unfinished task is asked again, with what was found of it.
pub resume_comes :
    (stations : Stations) (number c task going : ℕ) (file : List ℕ) (self : StoredParty) (part : Part)
    → Some self ≡ numbered number stations.parties.items
    → ((seat : Seat) → IsSeat self seat → IsLastGoing seat.party.client.lists (Some (task, going)))
    → ((world : World) (played : Party) → PlaysStations stations world → PlaysParty self played
    → file_of_task world.files played task ≡ Some file)
    → number ≡ suc c → part ≡ stored.Resume task going file → ComesAlways stations (ask_resume number) c part
resume_comes stations number c task going file self part self_is last_is file_is number_is part_is world sound plays
    allowed =
    let it = has-party stations world sound plays number self self_is in
    let last = last_is (record { world = world; c = it.c; party = it.party }) it.seat in
    let is_file = file_is world it.party plays it.seat.plays in
    let same_number : suc it.c ≡ suc c = sym it.number_is ∙ number_is in
    let same : it.c ≡ c = cc in
    subst (λ (p : Part). ComesTo world (ask_resume number) c p) (sym part_is)
    (subst (λ (n : ℕ). ComesTo world (ask_resume n) c (stored.Resume task going file)) (sym it.number_is)
    (subst (λ (n : ℕ). ComesTo world (ask_resume (suc it.c)) n (stored.Resume task going file)) same
    (record {
      party = it.party;
      is_party = it.there;
      whole = asking it.party (work.Upload (new_upload task last.1.0.number file));
      takes = (
        refl,
        (
          it.party,
          it.there,
          record {
            task = task;
            last = last.0;
            entry = last.1.0;
            is_entry = last.1.1;
            file = file;
            is_file = is_file;
            part_is = refl;
          },
        ),
      );
      is_part =
          record {
            last = last.0;
            entry = last.1.0;
            is_entry = last.1.1;
            number_is = last.1.2;
            is_file = is_file;
            part_is = ap (λ (n : ℕ). asking it.party (work.Upload (new_upload task n file))) (sym last.1.2);
          };
      none_asked = refl;
      asks_so = refl;
    })))
