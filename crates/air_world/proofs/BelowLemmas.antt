-- Schedules whose events may come have their worlds, and a cut may leave the first of the commands done, for any number
-- of them.
use Rattle.std.proofs.Common.{◌≡◌, ℕ, zero, suc, ◌≤◌, List, [], ◌∷◌, length, map, true, false, refl, sym, subst}
use Rattle.client_notes.specs.Several as notes
use Rattle.air_world.proofs.Names.{after_first, new_server, Party, sessions_over, with_asked, NodeEvent, ClientDoes, ClientEvent, ClientIsCut, Happens, Plays, ServerDoes, ServerEvent, ServerIsCut, client_commands, party_cut, server_commands, ClientPart, ClientTakes, IsPartOf, ServerTakes, CutsLaw, ExistenceLaw, MayPlay, RunLaw, SoundLaw, Event, ask_download, ask_list, ask_resume, ask_upload, break_client, cut_client, cut_server, tick_client, tick_server, to_client, to_server, Sound, PartyAt, World, counted, first_world}
use Rattle.air_world.proofs.WorldLists.{at-set}

plays : SoundLaw → ExistenceLaw → (world : World) (events : List Event) → Sound world → MayPlay world events
    → (worlds : List World) × Plays world events worlds
plays law some world [] sound may = ([], refl)
plays law some world (event ∷ events) sound may =
    let it = some world event sound may.0 in
    let later = plays law some it.0 events (law.kept world it.0 event sound it.1) (may.1 it.0 it.1) in
    (it.0 ∷ later.0, (it.0, later.0, refl, it.1, later.1))

pub run-law : SoundLaw → ExistenceLaw → RunLaw
run-law law some schedule is may =
    let it = plays law some (first_world schedule) schedule.events (law.first schedule is) may in
    (it.0, record { is_schedule = is; plays = it.1 })

-- ---- cuts

abbrev cut-next : World → NodeEvent → World → ℕ → World
cut-next world coming delivered count =
    counted
    (record delivered {
      server =
          new_server world.server.me world.server.window
          (after_first count world.server.store (server_commands world coming));
      parties = map sessions_over delivered.parties;
      is_cut = false;
    })

abbrev ServerCutBy : World → NodeEvent → ℕ → (World → Type 0) → Type 0
ServerCutBy world coming count Comes =
    (next : World) × Comes next × (next.is_cut ≡ false)
    × (next.server.store ≡ after_first count world.server.store (server_commands world coming))

server-event : (world : World) (event : Event) (coming : NodeEvent) (delivered : World) (count : ℕ)
    → ServerTakes world event coming delivered → world.is_cut ≡ true → count ≤ length (server_commands world coming)
    → ServerCutBy world coming count (ServerEvent world event)
server-event world event coming delivered count takes is within =
    let next = cut-next world coming delivered count in
    let cut : ServerIsCut world coming delivered next = record { count = count; within = within; new_is = refl } in (
      next,
      record {
        coming = coming;
        delivered = delivered;
        takes = takes;
        does = subst (λ it. ServerDoes it world coming delivered next) (sym is) cut;
      },
      refl,
      refl,
    )

server-cut : (world : World) (event : Event) (coming : NodeEvent) (delivered : World) (count : ℕ)
    → ServerTakes world event coming delivered → world.is_cut ≡ true → count ≤ length (server_commands world coming)
    → ServerCutBy world coming count (Happens world event)
server-cut world (ask_upload c size) coming delivered count takes is within = absurd takes
server-cut world (ask_resume c) coming delivered count takes is within = absurd takes
server-cut world (ask_list c tokens) coming delivered count takes is within = absurd takes
server-cut world (ask_download c number) coming delivered count takes is within = absurd takes
server-cut world (to_server c place) coming delivered count takes is within =
    server-event world (to_server c place) coming delivered count takes is within
server-cut world (to_client c place) coming delivered count takes is within = absurd takes
server-cut world tick_server coming delivered count takes is within =
    server-event world tick_server coming delivered count takes is within
server-cut world (tick_client c) coming delivered count takes is within = absurd takes
server-cut world (break_client c) coming delivered count takes is within = absurd takes
server-cut world (cut_server call choice) coming delivered count takes is within = absurd takes
server-cut world (cut_client c call choice) coming delivered count takes is within = absurd takes

abbrev ClientCutBy : ℕ → ClientPart → ℕ → (World → Type 0) → Type 0
ClientCutBy c part count Comes =
    (next : World) × Comes next
    × ((party : Party) × PartyAt next c party × (party.is_cut ≡ false)
    × (party.client.lists ≡ notes.after_first count part.party.client.lists (client_commands part)))

client-event : (world : World) (event : Event) (c : ℕ) (part : ClientPart) (count : ℕ) (party : Party)
    → PartyAt world c party → ClientTakes world event c part → part.party.is_cut ≡ true
    → count ≤ length (client_commands part)
    → ClientCutBy c part count (ClientEvent world event)
client-event world event c part count party there takes is within =
    let next = with_asked world c part (party_cut part count) in
    let cut : ClientIsCut world c part next = record { count = count; within = within; new_is = refl } in (
      next,
      record {
        c = c;
        part = part;
        takes = takes;
        does = subst (λ it. ClientDoes it world c part next) (sym is) cut;
      },
      (party_cut part count, at-set world.parties c (party_cut part count) party there, refl, refl),
    )

-- the client whose part it is
there-by : (world : World) (number c : ℕ) (P : Party → Type 0) → IsPartOf world number c P
    → (party : Party) × PartyAt world c party
there-by world zero c P is = absurd is
there-by world (suc place) c P is = (is.1.0, is.1.1)

client-cut : (world : World) (event : Event) (c : ℕ) (part : ClientPart) (count : ℕ)
    → ClientTakes world event c part → part.party.is_cut ≡ true → count ≤ length (client_commands part)
    → ClientCutBy c part count (Happens world event)
client-cut world (ask_upload n size) c part count takes is within =
    let it = there-by world n c _ takes in
    client-event world (ask_upload n size) c part count it.0 it.1 takes is within
client-cut world (ask_resume n) c part count takes is within =
    let it = there-by world n c _ takes in
    client-event world (ask_resume n) c part count it.0 it.1 takes is within
client-cut world (ask_list n tokens) c part count takes is within =
    let it = there-by world n c _ takes in
    client-event world (ask_list n tokens) c part count it.0 it.1 takes is within
client-cut world (ask_download n number) c part count takes is within =
    let it = there-by world n c _ takes in
    client-event world (ask_download n number) c part count it.0 it.1 takes is within
client-cut world (to_server n place) c part count takes is within = absurd takes
client-cut world (to_client n place) c part count takes is within =
    let it = there-by world n c _ takes in
    client-event world (to_client n place) c part count it.0 it.1 takes is within
client-cut world tick_server c part count takes is within = absurd takes
client-cut world (tick_client n) c part count takes is within =
    let it = there-by world n c _ takes in
    client-event world (tick_client n) c part count it.0 it.1 takes is within
client-cut world (break_client n) c part count takes is within = absurd takes
client-cut world (cut_server call choice) c part count takes is within = absurd takes
client-cut world (cut_client n call choice) c part count takes is within = absurd takes

pub cuts-law : CutsLaw
cuts-law = record { server = server-cut; client = client-cut }
