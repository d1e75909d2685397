-- a report from a part is that of the state
use Rattle.std.proofs.Common.{◌≡◌, List, [], ◌∷◌, Bool, true, false, ◌||◌, cond, bytes_eq, map, insert, option_map, refl, sym, ap, subst, ◌∙◌}
use Rattle.std.specs.List.{AllByRecursion, IsDistinct}
use Rattle.std.proofs.lemmas.Map.Keys.{IsDistinct-cons}
use Rattle.std.proofs.lemmas.Slice.Eq.{bytes_eq-Decides}
use Rattle.st_units.specs.declared.rows.DevRow.{DevRow}
use Rattle.st_model.specs.declared.call.Call.TheVariants.{EngineStateReport}
use Rattle.st_model.specs.declared.entry.Env.TheVariants.{Plain}
use Rattle.st_model.specs.declared.info.PoolInfo.{PoolInfo}
use Rattle.st_model.specs.declared.reply.Given.TheVariants.{Engine}
use Rattle.st_model.specs.declared.state.EngineState.{EngineState}
use Rattle.st_model.specs.declared.state.PoolState.{PoolState}
use Rattle.st_model.specs.Answer.{accepted}
use Rattle.st_model.specs.Look.{Text, is_called, is_started}
use Rattle.st_model.specs.Parts.{pool_at, started, table_of, shown_table}
use Rattle.st_model.specs.Step.{step}
use Rattle.st_model.specs.Valid.{Apart, IsValid}
use Rattle.st_model.specs.ValidPool.{EachPair}
use Rattle.st_model.specs.Shown.{infos_with, place_among, pool_info, started_pools, table_info}
use Rattle.st_model.specs.steps.EngineStateReport.{report_plain}
use Rattle.st_model.proofs.OnTable.{find-map, shown_table-is}
use Rattle.st_model.specs.Pieces.{ShowPools, every, info_at}
use Rattle.st_plain.specs.Reported.{entered}
use Rattle.st_plain.proofs.InOrder.{entered_one}

pool_info-name : (p : PoolState) → (pool_info p).name ≡ p.name
unfolding pool_info
pool_info-name p = refl

abbrev pub pool_names : List PoolState → List Text
pool_names = map (λ (p : PoolState). p.name)

or_true : (b : Bool) (c : Bool) → b ≡ true → (b || c) ≡ true
or_true true c h = refl
or_true false c h = absurd cc

apart_names : (rows : List DevRow) (p q : PoolState) → Apart rows p q → bytes_eq p.name q.name ≡ false
apart_names rows p q apart = here (bytes_eq p.name q.name) refl
  where
    here : (b : Bool) → bytes_eq p.name q.name ≡ b → b ≡ false
    here true e = absurd (apart.names q.name (or_true (is_called q.name p) _ e) (or_true (is_called q.name q) _ ((bytes_eq-Decides q.name q.name).1 refl)))
    here false e = refl

later_apart : (rows : List DevRow) (p : PoolState) (qs : List PoolState) → AllByRecursion (Apart rows p) qs → AllByRecursion (λ n. bytes_eq p.name n ≡ false) (pool_names (started_pools qs))
later_apart rows p [] apart = tt
later_apart rows p (q ∷ qs) apart = here (is_started q.mode) (later_apart rows p qs apart.1)
  where
    here : (b : Bool) → AllByRecursion (λ n. bytes_eq p.name n ≡ false) (pool_names (started_pools qs)) → AllByRecursion (λ n. bytes_eq p.name n ≡ false) (pool_names (cond b (q ∷ started_pools qs) (started_pools qs)))
    here true rest = (apart_names rows p q apart.0, rest)
    here false rest = rest

-- started pools have names of their own
pub started_distinct : (rows : List DevRow) (pools : List PoolState) → EachPair (Apart rows) pools → IsDistinct bytes_eq (pool_names (started_pools pools))
unfolding IsDistinct
started_distinct rows [] apart = tt
started_distinct rows (p ∷ ps) apart = here (is_started p.mode) (started_distinct rows ps apart.1)
  where
    here : (b : Bool) → IsDistinct bytes_eq (pool_names (started_pools ps)) → IsDistinct bytes_eq (pool_names (cond b (p ∷ started_pools ps) (started_pools ps)))
    here true rest = IsDistinct-cons bytes_eq p.name (pool_names (started_pools ps)) (later_apart rows p ps apart.0) rest
    here false rest = rest

info_names : (pools : List PoolState) → map (λ (i : PoolInfo). i.name) (map pool_info pools) ≡ pool_names pools
info_names [] = refl
info_names (p ∷ ps) = ap (λ n. n ∷ map (λ (i : PoolInfo). i.name) (map pool_info ps)) (pool_info-name p) ∙ ap (λ ns. p.name ∷ ns) (info_names ps)

infos_entered : (infos : List PoolInfo) (pools : List PoolState) → infos_with infos pools ≡ entered infos (map pool_info pools)
infos_entered infos [] = refl
infos_entered infos (p ∷ ps) =
    ap (λ (n : Text). infos_with (insert infos (place_among infos n) (pool_info p)) ps) (sym (pool_info-name p))
    ∙ infos_entered (insert infos (place_among infos (pool_info p).name) (pool_info p)) ps

info_found : (pools : List PoolState) (n : Text) → info_at n (map pool_info pools) ≡ option_map pool_info (pool_at n pools)
info_found pools n = find-map pool_info (is_called n) (λ (i : PoolInfo). bytes_eq i.name n) (λ (p : PoolState). ap (λ t. bytes_eq t n) (pool_info-name p)) pools

in_order : (s : EngineState) (infos : List PoolInfo) → IsValid s → ShowPools every s infos → entered [] infos ≡ infos_with [] (started_pools s.pools)
in_order s infos valid are =
    let distinct = subst (IsDistinct bytes_eq) (sym (info_names (started s))) (started_distinct s.devices s.pools valid.apart) in
    entered_one infos (map pool_info (started s)) are.apart distinct (λ n. are.shown n ∙ sym (info_found (started s) n)) ∙ sym (infos_entered [] (started s))

pub report-is : (s : EngineState) (infos : List PoolInfo) → IsValid s → ShowPools every s infos → accepted (Engine (shown_table (table_of s)) (entered [] infos)) ≡ (step s EngineStateReport Plain).0
unfolding report_plain
report-is s infos valid are =
    ap (λ t. accepted (Engine t (entered [] infos))) (shown_table-is s) ∙ ap (λ is. accepted (Engine (table_info s) is)) (in_order s infos valid are)
