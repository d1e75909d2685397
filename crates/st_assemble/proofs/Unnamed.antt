-- A serial that no header names has no candidate, and so no pool.
use Rattle.std.proofs.Common.{◌≡◌, ◌⊎◌, inl, inr, ℕ, suc, ◌+◌, ◌<◌, ◌≤◌, Bool, true, false, cond, nat_eq, List, [], ◌∷◌, map, Option, Some, None, unwrap_or, refl, sym, ◌∙◌, ap, subst, arith}
use Rattle.std.specs.List.{slice_get}
use Rattle.std.proofs.lemmas.Bool.{cases_Bool, cases_lt}
use Rattle.std.proofs.lemmas.Bool.Decides.{nat_tests}
use Rattle.st_limits.specs.declared.TheConstants.{MAX_POOLS}
use Rattle.st_poolrec.specs.Record as pools
use Rattle.st_model.specs.declared.state.PoolState.{PoolState}
use Rattle.st_rack.specs.Device.{Image}
use Rattle.st_rack.specs.Calls.{Devices}
use Rattle.st_slots.specs.Reading.{newer}
use Rattle.st_commit.specs.Standing.{keep}
use Rattle.st_image.specs.Looks.{is_serial}
use Rattle.st_image.specs.Bears.{newest_over}
use Rattle.st_image.specs.Stands.{StandsFor, Nothing}
use Rattle.st_image.specs.Rack.{IsSerial, RackStands, greatest_over}
use Rattle.st_image.specs.Survivors as survivors
use Rattle.st_looks.specs.declared.look.DevLook.{DevLook}
use Rattle.st_looks.specs.Looked.{looked}
use Rattle.st_looks.specs.Serials.{header_serial, IsNextOf}
use Rattle.st_judge.specs.Candidates.{even_of, odd_of, newest_in, newest_among}
use Rattle.st_judge.proofs.Newest.{newest_looked}
use Rattle.st_assemble.specs.Found.{row_of, IsFound}
use Rattle.st_assemble.specs.declared.taking.Found.{Found}
use Rattle.st_assemble.specs.inner.SoFar.{pool_of, PoolsUpTo, GoneUpTo}
use Rattle.st_assemble.specs.inner.Told.{NoneBetween}
use Rattle.st_assemble.proofs.Rows.{none_above}

not_its : (q : ℕ) (header : Option ℕ) → (unwrap_or header 0 ≡ q → ⊥) → is_serial q header ≡ false
not_its q None ne = refl
not_its q (Some n) ne = elim (cases_Bool (nat_eq n q)) [
  | inl same ↦ absurd (ne (same_number n q same))
  | inr other ↦ other
]
  where
    same_number : (a b : ℕ) → nat_eq a b ≡ true → a ≡ b
    same_number a b e = grind (arith, nat_tests)

pub unnamed : (q : ℕ) (looks : List DevLook) → ((k : ℕ) (l : DevLook) → slice_get looks k ≡ Some l → header_serial l ≡ q → ⊥) → newest_among q looks ≡ None
unnamed q [] none = refl
unnamed q (l ∷ ls) none =
    let own = not_its q l.header (none 0 l refl) in
    (λ i. newer (newer (cond (own i) (keep q l.even) None) (cond (own i) (keep q l.odd) None)) (newest_among q ls)) ∙ unnamed q ls (λ k m at. none (suc k) m at)

module _ (devs : Devices) (c : Image) (looks : List DevLook) (are : looks ≡ map (looked c) devs) where
  none_here : (q : ℕ) → ((k : ℕ) (l : DevLook) → slice_get looks k ≡ Some l → header_serial l ≡ q → ⊥) → newest_over q devs c ≡ None
  none_here q none = sym (newest_looked q c devs) ∙ ap (newest_among q) (sym are) ∙ unnamed q looks none

  pub none_between : (last p : ℕ) → IsNextOf last looks (Some p) → NoneBetween devs c last p
  none_between last p next q serial more less = none_here q (λ k l at e. elim (next.1.1 k l at) [
    | inl low ↦ absurd (omega (arith, low, more, e))
    | inr high ↦ absurd (omega (arith, high, less, e))
  ])

  none_after : (last : ℕ) → IsNextOf last looks None → (q : ℕ) → last < q → newest_over q devs c ≡ None
  none_after last none q more = none_here q (λ k l at e. let low = none k l at in absurd (omega (arith, low, more, e)))

  -- where no serial follows, all is found
  pub all_found : (last : ℕ) (found : Found) → IsNextOf last looks None → PoolsUpTo devs c last found.pools → GoneUpTo devs c last found.gone → found.next ≡ greatest_over devs c + 1 → IsFound devs c found
  all_found last found none known gone next = record {
    state = record { pools = known.pools; devices = map survivors.row_of devs; next = found.next };
    stands = record {
      each = each;
      serials = known.rise;
      names = known.names;
      few = known.few;
      devices = refl;
      next = next;
    };
    pools = known.told;
    gone = record {
      each = gone.each;
      all = λ p g rec is bears ended. elim (cases_lt last p) [
        | inl more ↦ absurd (no_pair (g, pools.record_text rec) (sym (none_after last none p more) ∙ bears.newest))
        | inr old ↦ gone.all p g rec is old bears ended
      ];
      rise = gone.rise;
    };
    next = refl;
  }
    where
      no_pair : (x : ℕ × List ℕ) → None ≡ Some x → ⊥
      no_pair x e = cc

      each : (p : ℕ) → IsSerial p → StandsFor p devs c (pool_of p known.pools)
      each p is = elim (cases_lt last p) [
        | inl more ↦ subst (λ (o : Option PoolState). StandsFor p devs c o) (sym (none_above last p known.pools known.below more)) (Nothing (none_after last none p more))
        | inr old ↦ known.each p is old
      ]

-- before the first serial
pub no_pools : (devs : Devices) (c : Image) → PoolsUpTo devs c 0 []
no_pools devs c = record { pools = []; told = refl; each = λ p is le. (let from = is.from in absurd (omega (arith, from, le))); rise = tt; below = tt; names = tt; few = omega arith }

pub none_gone : (devs : Devices) (c : Image) → GoneUpTo devs c 0 []
none_gone devs c = record { each = tt; all = λ p g rec is le bears gone. (let from = is.from in absurd (omega (arith, from, le))); rise = tt; below = tt }
