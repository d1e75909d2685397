-- The rows of the pools that were found.
use Rattle.std.proofs.Common.{◌≡◌, ℕ, true, List, map, Option, Some, sym, ◌∙◌, ap, subst, arith}
use Rattle.std.specs.List.{slice_get, IsDistinct}
use Rattle.std.specs.Str.{bytes_eq}
use Rattle.st_model.specs.declared.state.EngineState.{EngineState}
use Rattle.st_model.specs.declared.state.PoolState.{PoolState}
use Rattle.st_rack.specs.Device.{Path, State, held}
use Rattle.st_rack.specs.Calls.{Devices, names}
use Rattle.st_judge.specs.declared.rows.FoundRow.{FoundRow}
use Rattle.st_image.specs.Stands.{StandsFor}
use Rattle.st_assemble.specs.Found.{row_of}
use Rattle.st_parting.specs.Found.{IsFoundOn}
use Rattle.st_parting.specs.Own.{used_by}
use Rattle.st_parting.proofs.Finding.{own_found}
use Rattle.st_parting.proofs.Parting.{lie_apart}
use Rattle.st_parting.proofs.Rows.{mapped_at}
use Rattle.st_dividing.specs.Divided.{AreRowsApart, path_of_row, present_of}
use Rattle.st_boarding.proofs.Used.{found_distinct, used_is_present}

module _ (devs : Devices) (s : State) (e : EngineState) (found : IsFoundOn devs s e) where
  pub pool_stands : (k : ℕ) (pool : PoolState) → slice_get e.pools k ≡ Some pool → StandsFor pool.serial devs (held s) (Some pool)
  pool_stands k pool at =
      let own = own_found e.pools k pool found.stands.serials at in
      subst (λ (o : Option PoolState). StandsFor pool.serial devs (held s) o) own.1 (found.stands.each pool.serial own.0)

  pub list_is : (k : ℕ) (pool : PoolState) → slice_get e.pools k ≡ Some pool → used_by pool devs ≡ present_of devs pool.devices
  list_is k pool at = used_is_present pool.serial devs (held s) found.rises pool (pool_stands k pool at)

  pub rows_apart : AreRowsApart devs (map row_of e.pools)
  rows_apart = record {
    distinct = λ k row at. (
        let pool = mapped_at row_of e.pools k row at in
        subst (λ (r : FoundRow). IsDistinct bytes_eq (map path_of_row r.devs)) pool.2 (found_distinct pool.0.serial devs (held s) found.rises pool.0 (pool_stands k pool.0 pool.1)));
    apart = λ j k a b at_a at_b lt p named. (
        let one = mapped_at row_of e.pools j a at_a in
        let two = mapped_at row_of e.pools k b at_b in
        let in_one : names (used_by one.0 devs) p ≡ true = ap (λ (l : List Path). names l p) (list_is j one.0 one.1) ∙ ap (λ (r : FoundRow). names (present_of devs r.devs) p) one.2 ∙ named in
        ap (λ (r : FoundRow). names (present_of devs r.devs) p) (sym two.2) ∙ ap (λ (l : List Path). names l p) (sym (list_is k two.0 two.1))
        ∙ (lie_apart devs s e found).apart j k one.0 two.0 one.1 two.1 (λ same. (omega (arith, lt, same))) p in_one);
  }
