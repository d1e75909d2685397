-- a rename keeps validity
use Rattle.std.proofs.Common.{◌≡◌, ℕ, ◌&&◌, ◌⊎◌, inl, inr, List, [], ◌∷◌, Bool, true, false, ◌||◌, cond, map, Option, Some, None, is_some, bytes_eq, refl, sym, ◌∙◌, subst}
use Rattle.std.specs.List.{AllByRecursion}
use Rattle.std.proofs.lemmas.Slice.Eq.{bytes_eq-Decides}
use Rattle.st_units.specs.declared.rows.DevRow.{DevRow}
use Rattle.st_units.specs.declared.cause.Cause.TheVariants.{NameInUse}
use Rattle.st_model.specs.declared.reply.Reply.{Reply}
use Rattle.st_model.specs.declared.state.EngineState.{EngineState}
use Rattle.st_model.specs.declared.state.PoolMode.{PoolMode}
use Rattle.st_model.specs.declared.state.PoolMode.TheVariants.{Up, Down, Stopped, Unsettled, Incomplete}
use Rattle.st_model.specs.declared.state.PoolState.{PoolState}
use Rattle.st_model.specs.Answer.{first_answer, unless_answered}
use Rattle.st_model.specs.Look.{Text, holds, holder, uses, is_called, is_up, flight_of, gives_name}
use Rattle.st_model.specs.Parts.{pool_at}
use Rattle.st_model.specs.Valid.{Apart, AreThere, IsRow, IsValid}
use Rattle.st_model.specs.ValidPool.{EachPair, IsValidIn, IsWhole}
use Rattle.st_model.proofs.Lists.{EachPair-map, none_found}
use Rattle.st_model.specs.Checks.{worn}
use Rattle.st_model.specs.Lifted.{changed, one_changed, runs_as}
use Rattle.st_model.specs.steps.RenamePool.{renamed, rename_answers, rename_found, rename_pool}
use Rattle.st_model.proofs.Answers0.{none_answers, so_not, not_there, not_worn}
use Rattle.st_model.proofs.EachKind.{IsGood}
use Rattle.st_model.proofs.Kept.{changed-good}
use Rattle.st_model.proofs.Whole.{same_parts, whole-commit}

module _ {X : Type 0} where
  pub EachPair-with : (P : X → Type 0) (R Q : X → X → Type 0) (xs : List X) → ((x y : X) → P x → P y → R x y → Q x y) → AllByRecursion P xs → EachPair R xs → EachPair Q xs
  EachPair-with P R Q [] f h g = tt
  EachPair-with P R Q (x ∷ xs) f h g = (all xs h.1 g.0, EachPair-with P R Q xs f h.1 g.1)
    where
      all : (ys : List X) → AllByRecursion P ys → AllByRecursion (R x) ys → AllByRecursion (Q x) ys
      all [] a b = tt
      all (y ∷ ys) a b = (f x y h.0 a.0 b.0, all ys a.1 b.1)

-- a change by which a pool may gain this name, and nothing else that others see
pub record Gains (new : Text) (p q : PoolState) : Type 0 where
  pub serial : q.serial ≡ p.serial
  pub names : (n : Text) → holds n q ≡ true → (holds n p ≡ true) ⊎ (new ≡ n)
  pub devices : (path : Text) → uses path q ≡ uses path p

up_mode : (m : PoolMode) → is_up m ≡ true → m ≡ Up
up_mode Up h = refl
up_mode (Down call) h = absurd cc
up_mode Stopped h = absurd cc
up_mode (Unsettled call) h = absurd cc
up_mode (Incomplete path) h = absurd cc

both : (a b : Bool) → (a && b) ≡ true → (a ≡ true) × (b ≡ true)
both true true h = (refl, refl)
both true false h = absurd cc
both false b h = absurd cc

or_left : (a b : Bool) → a ≡ true → (a || b) ≡ true
or_left true b h = refl
or_left false b h = absurd cc

clash : (b : Bool) → b ≡ false → b ≡ true → ⊥
clash b f t = absurd cc

-- what is held by the pool, changed or not
gained : (name new : Text) (g : PoolState → PoolState) → ((p : PoolState) → p.mode ≡ Up → Gains new p (g p)) → (p : PoolState) (n : Text) → holds n (one_changed name g p) ≡ true
    → (holds n p ≡ true) ⊎ ((new ≡ n) × (holds name p ≡ true))
gained name new g h p n = here (runs_as name p) refl
  where
    more : holds name p ≡ true → (holds n p ≡ true) ⊎ (new ≡ n) → (holds n p ≡ true) ⊎ ((new ≡ n) × (holds name p ≡ true))
    more own (inl a) = inl a
    more own (inr e) = inr (e, own)

    here : (b : Bool) → runs_as name p ≡ b → holds n (cond b (g p) p) ≡ true → (holds n p ≡ true) ⊎ ((new ≡ n) × (holds name p ≡ true))
    here true e held =
        let runs = both (is_up p.mode) (is_called name p) e in
        more (or_left (is_called name p) _ runs.1) ((h p (up_mode p.mode runs.0)).names n held)
    here false e held = inl held

plain_part : (name new : Text) (g : PoolState → PoolState) → ((p : PoolState) → p.mode ≡ Up → Gains new p (g p)) → (p : PoolState)
    → ((one_changed name g p).serial ≡ p.serial) × ((path : Text) → uses path (one_changed name g p) ≡ uses path p)
plain_part name new g h p = here (runs_as name p) refl
  where
    here : (b : Bool) → runs_as name p ≡ b → ((cond b (g p) p).serial ≡ p.serial) × ((path : Text) → uses path (cond b (g p) p) ≡ uses path p)
    here true e = let gain = h p (up_mode p.mode (both (is_up p.mode) (is_called name p) e).0) in (gain.serial, gain.devices)
    here false e = (refl, λ path. refl)

apart_gained : (rows : List DevRow) (name new : Text) (g : PoolState → PoolState) → ((p : PoolState) → p.mode ≡ Up → Gains new p (g p)) → (p q : PoolState) → holds new p ≡ false → holds new q ≡ false
    → Apart rows p q → Apart rows (one_changed name g p) (one_changed name g q)
apart_gained rows name new g h p q fp fq a =
    let pp = plain_part name new g h p in
    let qq = plain_part name new g h q in
    record {
      names = λ n x y. here n (gained name new g h p n x) (gained name new g h q n y);
      serials = rw (pp.0, qq.0) a.serials;
      devices = λ path t x y. a.devices path t (sym (pp.1 path) ∙ x) (sym (qq.1 path) ∙ y);
    }
  where
    here : (n : Text) → (holds n p ≡ true) ⊎ ((new ≡ n) × (holds name p ≡ true)) → (holds n q ≡ true) ⊎ ((new ≡ n) × (holds name q ≡ true)) → ⊥
    here n (inl x) (inl y) = a.names n x y
    here n (inl x) (inr y) = clash (holds new p) fp (subst (λ (m : Text). holds m p ≡ true) (sym y.0) x)
    here n (inr x) (inl y) = clash (holds new q) fq (subst (λ (m : Text). holds m q ≡ true) (sym x.0) y)
    here n (inr x) (inr y) = a.names name x.1 y.1

-- a pool may gain a name that no pool holds
pub gains-apart : (s : EngineState) (name new : Text) (g : PoolState → PoolState) → holder new s.pools ≡ None → ((p : PoolState) → p.mode ≡ Up → Gains new p (g p)) → EachPair (Apart s.devices) s.pools
    → EachPair (Apart s.devices) (map (one_changed name g) s.pools)
gains-apart s name new g free h apart =
    EachPair-map (Apart s.devices) (one_changed name g) s.pools
    (EachPair-with (λ p. holds new p ≡ false) _ _ s.pools (apart_gained s.devices name new g h) (none_found (holds new) s.pools free) apart)

named_now : (new n : Text) → (bytes_eq new n || false) ≡ true → new ≡ n
named_now new n h = (bytes_eq-Decides new n).0 (here (bytes_eq new n) h)
  where
    here : (b : Bool) → (b || false) ≡ true → b ≡ true
    here true h = refl
    here false h = absurd cc

renamed_gains : (new : Text) (p : PoolState) → p.mode ≡ Up → Gains new p (renamed new p)
renamed_gains new p up = record {
  serial = refl;
  names = λ n h. inr (named_now new n (subst (λ (m : PoolMode). (bytes_eq new n || gives_name n (flight_of m)) ≡ true) up h));
  devices = λ path. refl;
}

renamed_good : (next : ℕ) (rows : List DevRow) (new : Text) (p : PoolState) → p.mode ≡ Up → worn p ≡ None → IsGood next rows p → IsGood next rows (renamed new p)
renamed_good next rows new p up fresh good =
    let old : IsWhole p = subst (λ (m : PoolMode). IsValidIn p m) up good.valid.state in
    let whole : IsWhole (renamed new p) = whole-commit p (renamed new p) (same_parts p (renamed new p) refl refl refl refl refl refl) refl (not_worn p fresh old.commits) old.limit refl old in
    let there : AllByRecursion (IsRow rows) p.devices = subst (λ (m : PoolMode). AreThere rows p m) up good.there in
    record {
      valid = record {
        serial = good.valid.serial;
        from_one = good.valid.from_one;
        devices = good.valid.devices;
        state = subst (λ (m : PoolMode). IsValidIn (renamed new p) m) (sym up) whole;
      };
      there = subst (λ (m : PoolMode). AreThere rows (renamed new p) m) (sym up) there;
      on = rw up tt;
      flight = rw up tt;
    }

pub rename-valid : (s : EngineState) (name new : Text) → IsValid s → IsValid (rename_pool name new s).1
unfolding rename_pool
rename-valid s name new v = here (pool_at name s.pools) refl
  where
    done : (p : PoolState) → pool_at name s.pools ≡ Some p → first_answer (rename_answers s name new p) ≡ None → IsValid (changed name (renamed new) s)
    done p at none =
        let all = none_answers (rename_answers s name new p) none in
        let free = not_there (holder new s.pools) (so_not (is_some (holder new s.pools)) NameInUse all.1.0) in
        changed-good s name (renamed new) v (gains-apart s name new (renamed new) free (renamed_gains new) v.apart)
        (λ q o good. let same : q ≡ p = (let e : Some q ≡ Some p = sym o.found ∙ at in cc) in renamed_good s.next s.devices new q o.is_up (subst (λ (x : PoolState). worn x ≡ None) (sym same) all.1.1.1.0) good)

    answered : (a : Option Reply) (r : Reply) → (a ≡ None → IsValid (changed name (renamed new) s)) → IsValid (unless_answered a s (r, changed name (renamed new) s)).1
    answered None r h = h refl
    answered (Some q) r h = v

    here : (o : Option PoolState) → pool_at name s.pools ≡ o → IsValid (rename_found s name new o).1
    here None at = v
    here (Some p) at = answered (first_answer (rename_answers s name new p)) _ (done p at)
