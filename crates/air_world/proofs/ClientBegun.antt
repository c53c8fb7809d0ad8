-- A client that begins an attempt is as it should be: one that is asked, and one that calls again.
use Rattle.std.proofs.Common.{◌≡◌, ℕ, List, ◌∷◌, ◌++◌, Option, Some, refl, sym, ap, subst, ◌∙◌, inr}
use Rattle.air_world.proofs.Names.{JobStands, Client, Attempt, GoesWith, Asked, EachAttempt, Party, ServerSide, each-weaker, GoesOnWithTask, HasFacts, IsBeginning, IsWork, tasks-lists, ClientLaws, World}
use Rattle.air_world.proofs.ClientBasics.{stands-job}
use Rattle.air_world.proofs.ClientMade.{IsClientMade}
use Rattle.air_world.proofs.SessionsStay.{sessions_of}
use Rattle.air_world.proofs.Rebuild.{work-by}
use Rattle.air_world.proofs.Asked.{IsBase}

-- What is known of a client that begins this attempt, and of its base: that the attempt begins, with a work of these.
pub record Begins (old : World) (c : ℕ) (party base : Party) (asked : List Asked) (begun : Attempt)
    (now : Client) : Type 0 where
  pub base_is : IsBase old c party base asked
  pub begins : IsBeginning begun
  pub goes_on : GoesOnWithTask base begun
  pub work : IsWork (old.files ++ asked) base begun.client.asked
  pub stands : JobStands begun.client.asked base.client.lists begun.client.attempted.job
  pub now_is : now ≡ record base.client { attempt = Some begun.client.attempted }
  pub goes : GoesWith now (begun ∷ party.attempts)

module _ (laws : ClientLaws) (old : World) (c : ℕ) (party base : Party) (asked : List Asked) (begun : Attempt)
    (now : Client) (begins : Begins old c party base asked begun now) where
  abbrev pub begun-party : Party
  begun-party = record base { client = now; attempts = begun ∷ party.attempts }

  works-now : EachAttempt begun-party (λ a. IsWork (old.files ++ asked) begun-party a.client.asked)
  works-now =
      let server : begun-party.client.server ≡ base.client.server = ap (λ (it : Client). it.server) begins.now_is in (
        work-by (old.files ++ asked) base begun-party begun.client.asked server refl begins.work,
        each-weaker {P = (λ (a : Attempt). IsWork (old.files ++ asked) base a.client.asked)} {Q =
            (λ a. IsWork (old.files ++ asked) begun-party a.client.asked)} party.attempts
            (λ a work. work-by (old.files ++ asked) base begun-party a.client.asked server refl work) begins.base_is.works,
      )

  pub begun-made : IsClientMade old c party begun-party asked
  begun-made = record {
    me = ap (λ (it : Client). it.me) begins.now_is ∙ begins.base_is.me;
    server = ap (λ (it : Client). it.server) begins.now_is ∙ begins.base_is.server;
    window = ap (λ (it : Client). it.window) begins.now_is ∙ begins.base_is.window;
    goes = begins.goes;
    works = works-now;
    tasks =
        tasks-lists (old.files ++ asked) c base begun-party (ap (λ (it : Client). it.me) begins.now_is)
        (ap (λ (it : Client). it.server) begins.now_is)
        (ap (λ (it : Client). it.lists) begins.now_is) refl begins.base_is.tasks;
    job = λ link.
        stands-job begun.client.asked now.lists begun.client begins.goes.attempts_are.0.job
        (subst (λ (it : Client). JobStands begun.client.asked it.lists begun.client.attempted.job)
        (sym begins.now_is) begins.stands);
    facts =
        subst (λ (it : Client). HasFacts old.server.store (old.files ++ asked)
        (record base { client = it; attempts = begun ∷ party.attempts })) (sym begins.now_is)
        (subst (λ attempts. HasFacts old.server.store (old.files ++ asked)
        (record base {
          client = record base.client { attempt = Some begun.client.attempted };
          attempts = begun ∷ attempts;
        }))
        begins.base_is.attempts
        (laws.begin.called old.server.store (old.files ++ asked) base begun begins.base_is.facts begins.begins begins.goes_on));
    sessions = inr (ap (λ (o : Option ServerSide). o ∷ sessions_of party.attempts) begins.begins.unserved);
    good = begins.base_is.good;
  }
