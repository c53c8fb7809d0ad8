-- What the stations of a rehearsal are before the first event.
use Rattle.std.specs.Prelude.{◌≡◌, ℕ, ◌≤◌, List, [], length, slice_get, false, Some, None}
use Rattle.px_base.specs.CallSign.{CallSign}
use Rattle.disk_model.specs.Cuts.{Cuts}
use Rattle.disk_model.specs.declared.disk.Disk.{Ghosts}
use Rattle.disk_model.specs.Runs.{EachImage}
use Rattle.ax25_link.specs.Window.{window_of}
use Rattle.client_notes.specs.State.{StandsFor}
use Rattle.air_world.specs.Attempts.Party.{first_party}
use Rattle.air_world.specs.World.{pacsat}
use Rattle.air_rehearsal.specs.Counting.{Tells, no_counts}
use Rattle.air_rehearsal.specs.Played.{Opens}
use Rattle.air_rehearsal.specs.Stations.{client_at}
use Rattle.air_rehearsal.specs.Worlds.{PlaysParty}
use Rattle.air_rehearsal.specs.declared.party.Party.{Party as StoredParty}
use Rattle.air_rehearsal.specs.declared.stations.Stations.{Stations}

-- a client, with its disk before it is opened and after that
pub record Opened (B : Type 0) : Type 0 where
  pub before : B
  pub after : B
  pub party : StoredParty

module _ {B : Type 0} (g : Ghosts B) (cuts : Cuts B) where
  -- The client of this call is opened over its disk. Where the disk had no octet it is a first one, without notes.
  pub record OpensClient (server : CallSign) (k c : ℕ) (me : CallSign) (it : Opened B) : Type 0 where
    pub opens : Opens g cuts (client_at c) it.before it.after
    pub plays : g.content it.before ≡ Some [] → PlaysParty it.party (first_party server (window_of k) me)
    pub memory : cuts.is_starved it.after ≡ false
    pub images : EachImage g it.after (λ image. StandsFor image it.party.client.notes.lists)

  -- so many of the clients of these calls are opened, each over its disk, and the other disks are as they were
  pub record OpensFirst (server : CallSign) (k count : ℕ) (calls : List CallSign) (disks disks_now : List B)
      (parties : List StoredParty) : Type 0 where
    pub count_is : length parties ≡ count
    pub each :
        (c : ℕ) (me : CallSign) (it : Opened B) → slice_get calls c ≡ Some me → slice_get disks c ≡ Some it.before
        → slice_get disks_now c ≡ Some it.after → slice_get parties c ≡ Some it.party
        → OpensClient server k c me it
    pub others : (c : ℕ) → count ≤ c → slice_get disks_now c ≡ slice_get disks c
    pub as_many : length disks_now ≡ length disks

  -- all of them, and nothing was asked and nothing counted
  pub record OpensAll (k : ℕ) (calls : List CallSign) (disks disks_now : List B) (stations : Stations) : Type 0 where
    pub me_is : stations.me ≡ pacsat
    pub k_is : stations.k ≡ k
    pub no_cut : stations.cut ≡ None
    pub no_moment : stations.moment ≡ 0
    pub none_asked : stations.uploads.items ≡ []
    pub none_counted : Tells stations.report no_counts
    pub clients : OpensFirst pacsat k (length calls) calls disks disks_now stations.parties.items
