-- what a start finds done, where the call works on the pool
use Rattle.std.proofs.Common.{◌≡◌, ◌⊎◌, inl, inr, ℕ, List, [], ◌∷◌, Bool, true, false, cond, not, ◌&&◌, map, Option, Some, None, refl, sym, ap, ◌∙◌}
use Rattle.std.specs.Prelude.{find, ◌==◌}
use Rattle.st_model.specs.declared.reply.Reply.{Reply}
use Rattle.st_model.specs.declared.state.EngineState.{EngineState}
use Rattle.st_model.specs.declared.state.PoolState.{PoolState}
use Rattle.st_model.specs.Checks.{settled}
use Rattle.st_model.specs.Flight.{all_but}
use Rattle.st_model.specs.Found.{found_after_of, has_commit, started_so, taken_over, vanished, with_own_serial}
use Rattle.st_model.specs.Local.{Outcome, where_so}
use Rattle.st_model.specs.steps.StartPool.{with_serial}
use Rattle.st_model.proofs.Among.{same_number, up}
use Rattle.st_table.specs.Steps.{StepsPut, with_other}
use Rattle.st_beside.specs.Beside.{IsAlone, beside, put_back}
use Rattle.st_startbeside.proofs.Before.{found_instead, has_serial, none_before}

module _ (put : StepsPut) (p : PoolState) (s e : EngineState) (are : IsAlone p s e) where
  alone_serial : (q : PoolState) → (with_serial p.serial q e).pools ≡ q ∷ []
  alone_serial q = ap (λ (ps : List PoolState). map (λ (x : PoolState). cond (has_serial p x) q x) ps) are.alone ∙ ap (λ (t : Bool). cond t q p ∷ []) (same_number p.serial)

  -- the pool replaced
  pub replaced : (q : PoolState) → with_serial p.serial q s ≡ put_back p (with_serial p.serial q e).pools s
  replaced q = put.by_serial s p.name p q are.valid are.here ∙ ap (λ (ps : List PoolState). put_back p ps s) (sym (alone_serial q))

  -- the pool gone
  pub gone : record s { pools = all_but p.serial s.pools } ≡ put_back p (all_but p.serial e.pools) s
  gone = ap (λ (ps : List PoolState). put_back p ps s) (sym (ap (all_but p.serial) are.alone ∙ ap (λ (t : Bool). cond (not t) (p ∷ []) []) (same_number p.serial)))

  pub started_beside : (r : Reply) (q : PoolState) → Some (r, with_serial p.serial q s) ≡ beside p s (Some (r, with_serial p.serial q e))
  started_beside r q = ap (λ (t : EngineState). Some (r, t)) (replaced q)

  pub vanished_beside : Some (vanished s p) ≡ beside p s (Some (vanished e p))
  vanished_beside = ap (λ (t : EngineState). Some ((vanished s p).0, t)) gone

  pub taken_beside : (o : Option PoolState) → Some (taken_over s p o) ≡ beside p s (Some (taken_over e p o))
  taken_beside None = vanished_beside
  taken_beside (Some q) = started_beside (started_so s p q).0 (settled q)

  pub where_beside : (b : Bool) (x y : Reply × EngineState) → Some x ≡ beside p s (Some y) → where_so b x ≡ beside p s (where_so b y)
  where_beside true x y h = h
  where_beside false x y h = refl

-- no pool is left, or one with the serial
abbrev pub IsLeft : PoolState → List PoolState → Type 0
IsLeft p ps = (ps ≡ []) ⊎ ((q : PoolState) × (ps ≡ q ∷ []) × (q.serial ≡ p.serial))

abbrev pub LeavesOne : PoolState → Outcome → Type 0
LeavesOne p None = Unit {0}
LeavesOne p (Some a) = IsLeft p a.1.pools

module _ (put : StepsPut) (p : PoolState) (s e b f : EngineState) (are : IsAlone p s e) (before : IsAlone (up p) b f) (here : with_own_serial p.serial b ≡ Some (up p)) where
  there : with_own_serial p.serial f ≡ Some (up p)
  there = ap (find (has_serial p)) before.alone ∙ ap (λ (t : Bool). cond t (Some (up p)) None) (same_number p.serial)

  -- what became of the pool, told by its serial
  same_left : (ps : List PoolState) → IsLeft p ps → with_own_serial p.serial (put_back (up p) ps b) ≡ find (has_serial p) ps
  same_left ps (inl none) =
      ap (λ (l : List PoolState). with_own_serial p.serial (put_back (up p) l b)) none ∙ (none_before p b.pools ∙ ap (find (has_serial p)) (sym none))
  same_left ps (inr one) =
      let q = one.0 in
      let at : with_own_serial p.serial (with_other p.name q b) ≡ Some q =
      ap (with_own_serial p.serial) (sym (put.by_serial b p.name (up p) q before.valid before.here)) ∙ found_instead p q (up p) b.pools one.2 here in
      ap (λ (l : List PoolState). with_own_serial p.serial (put_back (up p) l b)) one.1
      ∙ (at ∙ (sym (ap (λ (t : Bool). cond t (Some q) None) (ap (λ (n : ℕ). n == p.serial) one.2 ∙ same_number p.serial)) ∙ ap (find (has_serial p)) (sym one.1)))

  abbrev found_by : ℕ → EngineState → Option PoolState → Option PoolState → Outcome
  found_by code t old now = where_so ((code == 0) && has_commit old now) (taken_over t p now)

  pub found_beside : (o : Outcome) → LeavesOne p o → found_after_of s p b (beside (up p) b o) ≡ beside p s (found_after_of e p f o)
  found_beside None left = refl
  found_beside (Some a) left =
      let now : Option PoolState = with_own_serial p.serial a.1 in
      ap (λ (old : Option PoolState). found_by a.0.code s old (with_own_serial p.serial (put_back (up p) a.1.pools b))) here
      ∙ (ap (found_by a.0.code s (Some (up p))) (same_left a.1.pools left)
      ∙ (where_beside put p s e are ((a.0.code == 0) && has_commit (Some (up p)) now) (taken_over s p now) (taken_over e p now) (taken_beside put p s e are now)
      ∙ ap (λ (old : Option PoolState). beside p s (found_by a.0.code e old now)) (sym there)))
