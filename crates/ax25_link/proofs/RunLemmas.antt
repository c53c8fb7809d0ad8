-- Runs of two stations.
use Rattle.std.proofs.Common.{◌≡◌, ℕ, ◌≤◌, List, [], length, true, false, refl, sym, ap, arith, zero, suc}
use Rattle.ax25_link.proofs.Names.{same_Some, slice_get_within, CallSign, Window, IsWindow, Transmission, IsAt, control_of, is_numbered, Station, AreLinked, IsOpened, acting, facing, Runs, stays, acts, turns, calling_station, answering_station, RunLaw, WholeRunLaw}
use Rattle.ax25_link.proofs.LawLemmas.{prefix_law}

run : (w : Window) (one other last_one last_other : Station) → IsWindow w → AreLinked w one other → Runs w one other last_one last_other
    → AreLinked w last_one last_other
run w one other last_one last_other window h stays = h
run w one other last_one last_other window h (acts act may rest) =
    run w (acting w one act) (facing other act) last_one last_other window (prefix_law.kept w one other act window h may) rest
run w one other last_one last_other window h (turns rest) =
    prefix_law.turned w last_other last_one (run w other one last_other last_one window (prefix_law.turned w one other h) rest)

no_place : (list : List Transmission) (place : ℕ) (t : Transmission) → length list ≤ place → IsAt list place t → ⊥
no_place list place t past at = let within = slice_get_within list place t at in let x : ⊥ = omega (arith, within) in x

-- the two stations when the SABM is answered
pub opened : (w : Window) (me peer : CallSign) → IsWindow w → AreLinked w (calling_station w me peer) (answering_station peer me)
opened w me peer window =
    prefix_law.opening w (calling_station w me peer) peer me true [] window
    (record { pushed = refl; queued = refl; sent = refl; acked = refl; taken = refl; again = refl; reply = λ e. (let x : ⊥ = cc in x) })
    (record { none = only_call; opened = only_delivered })
    (record { none = λ place t at. absurd (no_place [] place t (omega arith) at); opened = λ place t at. absurd (no_place [] place t (omega arith) at) })
  where
    list : List Transmission
    list = (calling_station w me peer).transmissions

    only_call : (place : ℕ) (t : Transmission) → IsAt list place t → is_numbered (control_of t) ≡ false
    only_call zero t at = ap (λ (x : Transmission). is_numbered (control_of x)) (sym (same_Some _ t at))
    only_call (suc place) t at = absurd (let x : ⊥ = cc in x)

    only_delivered : IsOpened list
    only_delivered zero t at call = ap (λ (x : Transmission). x.delivered) (sym (same_Some _ t at))
    only_delivered (suc place) t at call = absurd (let x : ⊥ = cc in x)

pub run_law : RunLaw
run_law w one other last_one last_other window h runs = run w one other last_one last_other window h runs

pub whole_run_law : WholeRunLaw
whole_run_law w me peer one other window runs =
    let h = run w (calling_station w me peer) (answering_station peer me) one other window (opened w me peer window) runs in
    (prefix_law.front w one other h, prefix_law.front w other one (prefix_law.turned w one other h))
