use Rattle.std.proofs.Common.{◌≡◌, ◌*◌, ◌/◌, true, None, ℕ, length, ap, refl, ◌∙◌, arith}
use Rattle.st_rack.specs.Story.{Story, Wrote, within, unsettled}
use Rattle.st_shelf.specs.Told.{story_of}
use Rattle.st_sparse.specs.Sectors.{byte_at, is_kept}
use Rattle.st_sparse.specs.Since.{content}
use Rattle.st_sparse.specs.Sparse.{sparse_state, settled}
use Rattle.st_sparse.proofs.Steps.{pushed, added_touches, added_writes}
use Rattle.st_sparse.proofs.Tears.{torn_pushed, within_from, within_until, or_left, or_right}
use Rattle.st_sparse.proofs.sparse.Sparse.tear.Goals as goal

pub invariant_of-self-2 : goal.invariant_of-self-2
invariant_of-self-2 c =
    let old = c.args.self.now in
    let at = 512 * c.args.sector in
    let n = length c.args.bytes.now in
    let story = story_of byte_at c.tell_write.new.story.value in
    let told : story ≡ Wrote at c.args.bytes.now (story_of byte_at old.story.value) = c.tell_write.ensures byte_at in
    let pending = λ (i : ℕ). ap (λ (s : Story). unsettled s i) told in
    record {
      small = old.small;
      placed = torn_pushed old.since.items c.push.new.self.items _ _ at n (λ i. is_kept c.keep.new.kept (i / 512) ≡ true) c.push.ensures.items refl (ap length c.in_ok-text.ensures.items)
          (λ i h. c.keep.ensures.keys (i / 512) (old.placed i h))
          (λ i h. c.in_ok-keep.ensures.there (i / 512) (omega (arith, within_from at n i h)) (omega (arith, within_until at n i h, c.requires.whole)));
      told = torn_pushed old.since.items c.push.new.self.items _ _ at n (λ i. unsettled story i ≡ true) c.push.ensures.items refl (ap length c.in_ok-text.ensures.items)
          (λ i h. pending i ∙ or_right (within at n i) (unsettled (story_of byte_at old.story.value) i) (old.told i h))
          (λ i h. pending i ∙ or_left (within at n i) (unsettled (story_of byte_at old.story.value) i) h);
    }

pub returns-clause-touched : goal.returns-clause-touched
returns-clause-touched c =
    let old = c.args.self.now in
    let adds = pushed c.args.sector c.args.bytes.now c.args.took old.since.items c.push.new.self.items _ c.in_ok-push.ensures.items refl c.in_ok-text.ensures.items refl in
    added_touches c.args.sector c.args.bytes.now c.args.took old.since.items c.push.new.self.items (settled old) (byte_at c.keep.new.kept) (sparse_state old) _ adds
    (λ j i. c.keep.ensures.bytes i j) refl refl (c.tell_write.ensures byte_at)

pub returns-clause-written : goal.returns-clause-written
returns-clause-written c =
    let old = c.args.self.now in
    let adds = pushed c.args.sector c.args.bytes.now c.args.took old.since.items c.push.new.self.items _ c.in_ok-push.ensures.items refl c.in_ok-text.ensures.items refl in
    added_writes c.args.sector c.args.bytes.now c.args.took old.since.items c.push.new.self.items (settled old) (byte_at c.keep.new.kept)
    (record { holds = content None c.push.new.self.items (byte_at c.keep.new.kept); story = story_of byte_at c.tell_write.new.story.value }) adds (λ j i. c.keep.ensures.bytes i j) refl
