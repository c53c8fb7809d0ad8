-- The server's disk at the end: what is recovered from it is the world's store, and it stands for that then.
use Rattle.std.proofs.Common.{◌≡◌, ℕ, ◌≤◌, List, true, false, Option, None, Some, IfSome, refl, inr, sym, ◌∙◌, subst, arith}
use Rattle.file_store.specs.Recovery.{IsRecovered}
use Rattle.file_store.specs.State.{StandsFor}
use Rattle.air_rehearsal.specs.declared.report.Report.{Report as StoredReport}
use Rattle.air_rehearsal.proofs.Names.{IsTold, Ghosts, ChangesReads, IsQuietNow, TellsAlike, images_now, state, alike_on, alike_same, at_told, joined, reads, reads_now, told_weaker, IsKnown, IsReady, StoreState, standing_of, store_on, Store, on_same, stands-each, World, store_blocks, EndsSo, CountsAcked, LooksOnly, StartsAgain, all_tasks, StandsAlike, StandsNow, Station, the_server}

is-some : (content : Option (List ℕ)) → IsTold content → (octets : List ℕ) × (content ≡ Some octets)
is-some None told = absurd (let e : false ≡ true = told in cc)
is-some (Some octets) told = (octets, refl)

told-by : (content : Option (List ℕ)) (octets : List ℕ) → content ≡ Some octets → IsTold content
told-by content octets is = subst (λ (c : Option (List ℕ)). IsTold c) (sym is) refl

module _ {D : Type 0} (g : Ghosts D) where
  -- The store that is recovered from a disk that stands for the world's is that one.
  pub recovered-store : (world : World) (disk mid : D) (store : StoreState)
      → world.server.store.blocks ≡ store_blocks → StandsNow g the_server world disk
      → IsRecovered g store_blocks disk mid store → store_on g store mid ≡ world.server.store
  recovered-store world disk mid store blocks stands recovered =
      let found : standing_of store_blocks stands.content ≡ state (store_on g store mid) =
      at_told (λ (before : List ℕ). standing_of store_blocks before ≡ state (store_on g store mid)) stands.content
      stands.is_content recovered.content
      in
      let stood : standing_of store_blocks stands.content ≡ state world.server.store =
      subst (λ (b : ℕ). standing_of b stands.content ≡ state world.server.store) blocks stands.stands
      in
      let same : state (store_on g store mid) ≡ state world.server.store = sym found ∙ stood in
      cc

  -- What its files hold is known, since the disk tells still.
  pub recovered-known : (world : World) (disk mid : D) → StandsNow g the_server world disk
      → TellsAlike (g.content disk) (g.content mid) → IsKnown g mid
  recovered-known world disk mid stands told =
      inr (told.1 (told-by (g.content disk) stands.content stands.is_content))

  -- a quiet disk is quiet behind reads
  quiet-reads : (mid now : D) → ChangesReads g mid now → IsQuietNow g mid → IsQuietNow g now
  quiet-reads mid now only quiet =
      subst (λ (c : Option (List ℕ)). IfSome c (λ octets. (image : List ℕ) → images_now g now image → image ≡ octets))
      (sym only.same_content)
      (told_weaker (g.content mid) _ _
      (λ octets told each image here. each image (reads_now g mid now only image here)) quiet)

  -- A station that started from its disk did so after reads too.
  starts-reads : ((first second third : D) → g.lasts first second → g.lasts second third → g.lasts first third)
      → (station : Station) (disk mid now : D) → StartsAgain g station disk mid → ChangesReads g mid now
      → g.lasts mid now → StartsAgain g station disk now
  starts-reads on station disk mid now starts only lasts = record {
    told = alike_on (g.content disk) (g.content mid) (g.content now) starts.told
        (alike_same (g.content mid) (g.content now) only.same_content);
    since = told_weaker (g.content disk) _ _
        (λ before told leaves.
        joined g.moment g.images_since disk mid now (StandsAlike station before) leaves
        (reads g.moment g.images_since mid now (StandsAlike station before) only.same_moment only.same_past))
        starts.since;
    quiet = quiet-reads mid now only starts.quiet;
    lasts = on disk mid now starts.lasts lasts;
  }

  -- A disk on which a store stands that is the world's stands for the world.
  pub stands-end : ((disk : D) → IfSome (g.content disk) (g.images disk))
      → ((disk : D) (t : ℕ) (image : List ℕ) → t ≤ g.moment disk → g.images disk image → g.images_since disk t image)
      → (world : World) (store : StoreState) (now : D) → store_on g store now ≡ world.server.store
      → IsReady g store now → IsTold (g.content now) → StandsNow g the_server world now
  stands-end image-of counts world store now same ready told =
      let some = is-some (g.content now) told in
      let here =
      at_told
      (λ (octets : List ℕ). (image : List ℕ) → images_now g now image → StandsFor image (store_on g store now)) some.0
      some.1 (stands-each g store now ready.healthy ready.stands_on)
      in
      let each : (image : List ℕ) → images_now g now image → StandsFor image world.server.store =
      λ image left. subst (λ (it : Store). StandsFor image it) same (here image left)
      in
      let is-image = at_told (g.images now) some.0 some.1 (image-of now) in
      record {
        content = some.0;
        is_content = some.1;
        stands = each some.0 (counts now (g.moment now) some.0 (omega arith) is-image);
        images = each;
      }

  -- The end, by the recovery and the reads behind it.
  pub ends-so : ((first second third : D) → g.lasts first second → g.lasts second third → g.lasts first third)
      → ((disk : D) → IfSome (g.content disk) (g.images disk))
      → ((disk : D) (t : ℕ) (image : List ℕ) → t ≤ g.moment disk → g.images disk image → g.images_since disk t image)
      → (world : World) (disk mid now : D) (store store_now : StoreState) (before report : StoredReport)
      → StandsNow g the_server world disk → IsRecovered g store_blocks disk mid store
      → StartsAgain g the_server disk mid → LooksOnly g store store_now mid now
      → store_on g store mid ≡ world.server.store → CountsAcked (all_tasks world) before report
      → EndsSo g world before disk now report
  ends-so on image-of counts world disk mid now store store_now before report stands recovered starts looks same
      counted =
      let all = starts-reads on the_server disk mid now starts looks.only looks.lasts in
      let told : IsTold (g.content now) = all.told.1 (told-by (g.content disk) stands.content stands.is_content) in
      let ready = subst (λ (it : StoreState). IsReady g it now) looks.stays.same looks.stays.ready in
      record {
        acked = counted.acked;
        is_acked = counted.is_acked;
        report_tells = counted.tells;
        again = all;
        stands =
            stands-end image-of counts world store now (on_same g store mid now looks.only.same_content ∙ same) ready
            told;
      }
