-- the state over one device, without pools, is one to open a lock with
use Rattle.std.proofs.Common.{ℕ, ◌≡◌, ◌≤◌, ◌^◌, List, [], ◌∷◌, true, lit≤, refl, ap, subst, sym, arith}
use Rattle.std.specs.List.Sorted.{IsStrictlySortedBy}
use Rattle.std.specs.Ordering.{nat_cmp}
use Rattle.std.specs.Cmp.Lexicographic.{slice_cmp}
use Rattle.st_units.specs.declared.rows.DevRow.{DevRow}
use Rattle.st_model.specs.Parts.{table_of}
use Rattle.st_model.specs.Valid.{IsValid}
use Rattle.st_plain.specs.Parts.{opening}
use Rattle.st_plain.specs.Views.{TableView}
use Rattle.st_lock.specs.Opening.{IsOpening}

one_rises : (path : List ℕ) → IsStrictlySortedBy (slice_cmp nat_cmp) (path ∷ [])
unfolding IsStrictlySortedBy
one_rises path = (tt, tt)

one_is_valid : (row : DevRow) → row.sectors ≤ 2 ^ 32 → IsValid (opening (row ∷ []))
one_is_valid row small = record {
  from_one = lit≤ tt;
  bounded = lit≤ tt;
  rack = record { few = omega arith; small = (small, tt); rising = one_rises row.path };
  count = omega arith;
  pools = tt;
  there = tt;
  flights = tt;
  on = tt;
  apart = tt;
}

pub opens-one : (rows : List DevRow) → (row : DevRow) × (rows ≡ row ∷ []) × (row.sectors ≤ 2 ^ 32) → IsOpening (table_of (opening rows))
opens-one rows h = subst (λ z. IsOpening (table_of (opening z))) (sym h.1) (record { table = refl; none = refl; valid = one_is_valid h.0 h.2 })

pub table-opens : (rows : List DevRow) → (row : DevRow) × (rows ≡ row ∷ []) × (row.sectors ≤ 2 ^ 32) → (t : TableView) → t ≡ record { state = table_of (opening rows); spare = true } → (t.spare ≡ true) × IsOpening t.state
table-opens rows h t is = (ap (λ (x : TableView). x.spare) is, subst (λ (x : TableView). IsOpening x.state) (sym is) (opens-one rows h))
