-- A client that differs from one that is as it should be in nothing but whether its next event is to be cut.
use Rattle.std.proofs.Common.{◌≡◌, ℕ, List, ◌++◌, Bool, refl, sym, ap, subst, ◌∙◌}
use Rattle.air_world.proofs.Names.{Client, Attempt, Asked, Party, newest, each-weaker, StayLaw, IsWork, alike-itself, tasks-lists, World}
use Rattle.air_world.proofs.ClientMade.{IsClientMade}
use Rattle.air_world.proofs.ClientsStay.{stay-refl}
use Rattle.air_world.proofs.Rebuild.{stands-at, stands-by, work-by}
use Rattle.air_world.proofs.Likes.{same-party}

-- a client by its parts
party-is : (one other : Party) → other.client ≡ one.client → other.uploads ≡ one.uploads → other.attempts ≡ one.attempts
    → record one { is_cut = other.is_cut } ≡ other
party-is one other client uploads attempts =
    ap (λ (it : Client). record { client = it; uploads = one.uploads; attempts = one.attempts; is_cut = other.is_cut })
    (sym client)
    ∙ ap (λ (it : List ℕ). record {
      client = other.client;
      uploads = it;
      attempts = one.attempts;
      is_cut = other.is_cut;
    }) (sym uploads)
    ∙ ap (λ (it : List Attempt). record {
      client = other.client;
      uploads = other.uploads;
      attempts = it;
      is_cut = other.is_cut;
    }) (sym attempts)

module _ (stay_law : StayLaw) (old : World) (c : ℕ) (was now : Party) (asked : List Asked)
    (made : IsClientMade old c was now asked) where
  flagged : (flag : Bool) → IsClientMade old c was (record now { is_cut = flag }) asked
  flagged flag =
      let that = record now { is_cut = flag } in
      record {
        me = made.me;
        server = made.server;
        window = made.window;
        goes = made.goes;
        works =
            each-weaker {P = (λ (a : Attempt). IsWork (old.files ++ asked) now a.client.asked)} {Q =
            (λ a. IsWork (old.files ++ asked) that a.client.asked)} now.attempts
            (λ a work. work-by (old.files ++ asked) now that a.client.asked refl refl work) made.works;
        tasks = tasks-lists (old.files ++ asked) c now that refl refl refl refl made.tasks;
        job = stands-by that (newest that) (λ a first link. stands-at now (newest now) a first made.job link);
        facts =
            stay_law.same old.server.store (old.files ++ asked) now that
            (same-party now that refl refl (alike-itself now.attempts) (stay-refl now.attempts)) made.facts;
        sessions = made.sessions;
        good = made.good;
      }

  pub made-alike : (that : Party) → that.client ≡ now.client → that.uploads ≡ now.uploads → that.attempts ≡ now.attempts
      → IsClientMade old c was that asked
  made-alike that client uploads attempts =
      subst (λ (p : Party). IsClientMade old c was p asked) (party-is now that client uploads attempts)
      (flagged that.is_cut)
