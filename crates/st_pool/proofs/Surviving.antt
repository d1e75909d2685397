-- What survives a call on the pool, by its books and those of its commit.
use Rattle.std.proofs.Common.{◌≡◌, inl, inr, ◌+◌, Bool, true, false, option_map, unwrap_or, List, [], Option, Some, None, refl, sym, ◌∙◌, ap}
use Rattle.st_units.specs.declared.cause.Cause.TheVariants.{OutOfMemory}
use Rattle.st_model.specs.declared.call.Call.TheVariants.{RenamePool, DestroyPool}
use Rattle.st_model.specs.declared.entry.Env.TheVariants.{Plain}
use Rattle.st_model.specs.declared.state.PoolState.{PoolState}
use Rattle.st_model.specs.Answer.{refused}
use Rattle.st_model.specs.Local.{Outcome}
use Rattle.st_model.specs.Look.{Text}
use Rattle.st_model.specs.Merged.{merged}
use Rattle.st_model.specs.Step.{step}
use Rattle.st_model.specs.steps.RenamePool.{renamed}
use Rattle.st_rack.specs.Device.{Image}
use Rattle.st_rack.specs.Calls.{Devices}
use Rattle.st_image.specs.Stands.{state_of}
use Rattle.st_image.specs.Survivors.{recorded, the_pool, after, IsBefore, Survives}
use Rattle.st_books.specs.declared.books.Books.{Books}
use Rattle.st_books.specs.Spelled.{same_flex}
use Rattle.st_books.specs.Survived.{IsEither, unless_gone}
use Rattle.st_books.specs.Ready.{stood, stood_next}
use Rattle.st_pool.specs.View.{engine_of, pool_with}
use Rattle.st_pool.specs.inner.Plans.{record_with, refusal, rename_refusal}
use Rattle.st_pool.proofs.Answering.{end_answer, rename_answer}
use Rattle.st_pool.proofs.Standing.{recorded_is, up_same}
use Rattle.st_pool.proofs.Stepping.{changed_own, destroy_plain, rename_plain}

module _ (b : Books) (m : Image) (devs : Devices) where
  abbrev up : PoolState
  up = pool_with b None m

  abbrev left : Outcome → Option PoolState
  left o = option_map recorded (the_pool (unwrap_or o (refused OutOfMemory, engine_of up devs)).1.pools)

  -- the books with another name, one commit later
  abbrev renamed_books : Text → Books
  renamed_books new = record b { rec = record_with new false b.rec; flex = same_flex b.flex; generation = b.generation + 1 }

  pub after_rename : (new : Text) → rename_refusal b None new ≡ None → after (pool_with b (Some (RenamePool b.rec.name new)) m) (RenamePool b.rec.name new) devs ≡ Some (stood_next b (record_with new false b.rec) m)
  after_rename new none =
      ap (λ (q : PoolState). option_map recorded (the_pool (step (engine_of q devs) (RenamePool b.rec.name new) Plain).1.pools)) (up_same b m (RenamePool b.rec.name new))
      ∙ ap left (rename_plain up devs new None (rename_answer b m devs None new refl ∙ none))
      ∙ ap (λ (ps : List PoolState). option_map recorded (the_pool ps)) (changed_own up devs (renamed new) refl)
      ∙ ap (λ (q : PoolState). Some q) (recorded_is (renamed_books new) m None)

  pub after_end : refusal b None ≡ None → b.flex.filesystems ≡ [] → after (pool_with b (Some (DestroyPool b.rec.name)) m) (DestroyPool b.rec.name) devs ≡ None
  after_end none bare =
      ap (λ (q : PoolState). option_map recorded (the_pool (step (engine_of q devs) (DestroyPool b.rec.name) Plain).1.pools)) (up_same b m (DestroyPool b.rec.name))
      ∙ ap left (destroy_plain up devs None (end_answer b m devs None bare ∙ none))

  -- the state before
  pub before_rename : (old new : Text) (found : Option PoolState) → found ≡ Some (stood b m) → IsBefore (pool_with b (Some (RenamePool old new)) m) (RenamePool old new) found
  before_rename old new found is = ([], refl, is ∙ ap (λ (q : PoolState). Some q) (sym (recorded_is b m (Some (RenamePool old new)))))

  pub before_end : (name : Text) (found : Option PoolState) → found ≡ Some (stood b m) → IsBefore (pool_with b (Some (DestroyPool name)) m) (DestroyPool name) found
  before_end name found is = ([], refl, is ∙ ap (λ (q : PoolState). Some q) (sym (recorded_is b m (Some (DestroyPool name)))))

  module _ (n : Image) (same : state_of b.generation b.rec b.flex n ≡ state_of b.generation b.rec b.flex m) where
    stood_same : stood b n ≡ stood b m
    stood_same = ap merged same

    next_same : (name : Text) (gone : Bool) → stood_next b (record_with name gone b.rec) n ≡ stood_next b (record_with name gone b.rec) m
    next_same name gone = ap (λ (q : PoolState). merged (record q { name = name; commits = b.generation + 1 })) same

    pub survives_rename : (new : Text) → rename_refusal b None new ≡ None
        → (found : Option PoolState) → IsEither (stood b n) (unless_gone (record_with new false b.rec) (stood_next b (record_with new false b.rec) n)) found
        → Survives (pool_with b (Some (RenamePool b.rec.name new)) m) (RenamePool b.rec.name new) devs found
    survives_rename new none found (inl is) = inl (before_rename b.rec.name new found (is ∙ ap (λ (q : PoolState). Some q) stood_same))
    survives_rename new none found (inr is) = inr (is ∙ ap (λ (q : PoolState). Some q) (next_same new false) ∙ sym (after_rename new none))

    pub survives_end : refusal b None ≡ None → b.flex.filesystems ≡ []
        → (found : Option PoolState) → IsEither (stood b n) (unless_gone (record_with b.rec.name true b.rec) (stood_next b (record_with b.rec.name true b.rec) n)) found
        → Survives (pool_with b (Some (DestroyPool b.rec.name)) m) (DestroyPool b.rec.name) devs found
    survives_end none bare found (inl is) = inl (before_end b.rec.name found (is ∙ ap (λ (q : PoolState). Some q) stood_same))
    survives_end none bare found (inr is) = inr (is ∙ sym (after_end none bare))
