-- What is drawn to be asked of the client of a number, by what its notes say.
use Rattle.std.specs.Prelude.{◌≡◌, ◌≢◌, ◌%◌, ◌==◌}
use Rattle.std.proofs.Common.{sym, ap, ◌∙◌}
use Rattle.air_schedule.specs.declared.event.Event.{Event as StoredEvent}
use Rattle.air_world.specs.Attempts.Party.{Party}
use Rattle.air_rehearsal.proofs.Names.{ℕ, min, true, false, Option, None, Some, is_some, refl, option_map, option_map_or, cond-false, cond-true, eq-eqb, ne_eqb, Lists, is_under_way, event_value, last_unfinished, ask_download, ask_resume, ask_upload, Sound, World, last_acked, IsDraw, Draw, next_number, next_state, none_drawn, question, state_after, wish, wish_by, wish_of, numbered, IsLastGoing, PlaysStations, Party as StoredParty, Stations}
use Rattle.air_rehearsal.proofs.AllowedLemmas.{Has}
use Rattle.air_rehearsal.proofs.PlayParts.{not_false}

-- what is asked where there is no unfinished upload
pub downloads :
    (draw number file : ℕ) → (draw % 4) ≡ 0 → question draw number (Some file) ≡ ask_download number file
downloads draw number file is =
    cond-true ((draw % 4) == 0) (ask_download number file) (ask_upload number (min (draw % 40001) 40000))
    (eq-eqb (draw % 4) 0 is)

pub uploads :
    (draw number file : ℕ) → (draw % 4) ≢ 0
    → question draw number (Some file) ≡ ask_upload number (min (draw % 40001) 40000)
uploads draw number file not =
    cond-false ((draw % 4) == 0) (ask_download number file) (ask_upload number (min (draw % 40001) 40000))
    (ne_eqb (draw % 4) 0 not)

-- the last unfinished upload, where one is told, and none where none is
pub going-is :
    (lists : Lists) (going : Option (ℕ × ℕ)) → IsLastGoing lists going
    → last_unfinished lists ≡ option_map (λ (it : ℕ × ℕ). it.0) going
going-is lists None last = last
going-is lists (Some going) last = last.0

pub none-going : (going : Option (ℕ × ℕ)) → is_some going ≡ false → option_map (λ (it : ℕ × ℕ). it.0) going ≡ None
none-going None is = refl
none-going (Some going) is = cc

pub some-going :
    (going : Option (ℕ × ℕ)) → is_some going ≡ true
    → (task : ℕ) × (option_map (λ (it : ℕ × ℕ). it.0) going ≡ Some task)
some-going None is = cc
some-going (Some going) is = (going.0, refl)

module _ (self : Stations) (world : World) (sound : Sound world) (plays : PlaysStations self world) (number state : ℕ)
    (stored : StoredParty) (it : Has self world sound plays number stored) where
  wish-is : wish state number world ≡ wish_of state number it.party
  wish-is =
      ap (λ (o : Option Party). option_map_or (wish_of state number) o none_drawn)
      (ap (λ (n : ℕ). numbered n world.parties) it.number_is ∙ it.there)

  -- what was asked is under way
  wish-busy : (is_under_way it.party.client.attempt ≡ false → ⊥) → wish state number world ≡ none_drawn
  wish-busy busy =
      wish-is
      ∙ cond-true (is_under_way it.party.client.attempt) none_drawn
      (wish_by state number (last_unfinished it.party.client.lists) (last_acked it.party.client.lists))
      (not_false (is_under_way it.party.client.attempt) busy)

  -- it isn't, and there is an unfinished upload, or none
  wish-by :
      is_under_way it.party.client.attempt ≡ false → (going acked : Option ℕ)
      → last_unfinished it.party.client.lists ≡ going → last_acked it.party.client.lists ≡ acked
      → wish state number world ≡ wish_by state number going acked
  wish-by free going acked going_is acked_is =
      wish-is
      ∙ cond-false (is_under_way it.party.client.attempt) none_drawn
      (wish_by state number (last_unfinished it.party.client.lists) (last_acked it.party.client.lists)) free
      ∙ ap (λ (o : Option ℕ). wish_by state number o (last_acked it.party.client.lists)) going_is
      ∙ ap (λ (o : Option ℕ). wish_by state number going o) acked_is

  -- so is what was drawn
  drawn-so :
      (draw : Draw) (event : Option StoredEvent) (state_now : ℕ) → wish state number world ≡ draw
      → option_map event_value event ≡ draw.event → state_now ≡ state_after draw.count state
      → IsDraw (wish state number world) event state state_now
  drawn-so draw event state_now is event_is state_is =
      record {
        event_is = event_is ∙ sym (ap (λ (d : Draw). d.event) is);
        state_is = state_is ∙ ap (λ (d : Draw). state_after d.count state) (sym is);
      }

  pub draws-none :
      (is_under_way it.party.client.attempt ≡ false → ⊥) → IsDraw (wish state number world) None state state
  draws-none busy = drawn-so none_drawn None state (wish-busy busy) refl refl

  module _ (free : is_under_way it.party.client.attempt ≡ false) (event : StoredEvent) where
    pub draws-resume :
        (task : ℕ) → last_unfinished it.party.client.lists ≡ Some task → event_value event ≡ ask_resume number
        → IsDraw (wish state number world) (Some event) state state
    draws-resume task going event_is =
        drawn-so (record { event = Some (ask_resume number); count = 0 }) (Some event) state
        (wish-by free (Some task) (last_acked it.party.client.lists) going refl) (ap Some event_is) refl

    pub draws-question :
        (acked : Option ℕ) (state_now : ℕ) → last_unfinished it.party.client.lists ≡ None
        → last_acked it.party.client.lists ≡ acked → event_value event ≡ question (next_number state) number acked
        → state_now ≡ next_state state → IsDraw (wish state number world) (Some event) state state_now
    draws-question acked state_now going acked_is event_is state_is =
        drawn-so (record { event = Some (question (next_number state) number acked); count = 1 }) (Some event) state_now
        (wish-by free None acked going acked_is) (ap Some event_is) state_is
