-- parts after CreatePool
use Rattle.std.proofs.Common.{◌≡◌, ◌+◌, ◌≤◌, ◌^◌, arith, inl, inr, List, [], ◌∷◌, ◌++◌, length, Bool, true, false, ◌||◌, cond, bytes_eq, map, find, is_some, Option, Some, None, refl, sym, ap, subst, ◌∙◌, append-nil, not}
use Rattle.std.specs.List.{AllByRecursion, IsDistinct, list_any}
use Rattle.std.specs.Option.{option_or}
use Rattle.std.specs.Cmp.Lexicographic.{nat_list_eq_equiv}
use Rattle.std.proofs.lemmas.List.{length-map, map-append}
use Rattle.std.proofs.lemmas.List.Elements.{filter-append}
use Rattle.std.proofs.lemmas.List.Folds.{find-append}
use Rattle.std.proofs.lemmas.Map.Keys.{IsDistinct-head, IsDistinct-tail, IsDistinct-push}
use Rattle.std.proofs.lemmas.Map.Made.{length-le_from_is_member}
use Rattle.std.proofs.lemmas.Slice.Eq.{bytes_eq-Decides}
use Rattle.st_units.specs.declared.rows.DevRow.{DevRow}
use Rattle.st_units.specs.declared.rows.Tier.TheVariants.{DataTier}
use Rattle.st_model.specs.declared.call.Call.TheVariants.{CreatePool}
use Rattle.st_model.specs.declared.entry.Env.TheVariants.{Plain}
use Rattle.st_model.specs.declared.reply.Given.TheVariants.{Created}
use Rattle.st_model.specs.declared.reply.Reply.{Reply}
use Rattle.st_model.specs.declared.state.EngineState.{EngineState}
use Rattle.st_model.specs.declared.state.KnownPool.{KnownPool}
use Rattle.st_model.specs.declared.state.PoolState.{PoolState}
use Rattle.st_model.specs.declared.state.TableState.{TableState}
use Rattle.st_model.specs.Answer.{accepted, unless_answered}
use Rattle.st_model.specs.Look.{Text, distinct, is_called, is_started}
use Rattle.st_model.specs.OnTable.{table_answer, with_known}
use Rattle.st_model.specs.Parts.{known, pool_at, started, table_of}
use Rattle.st_model.specs.Step.{step}
use Rattle.st_model.specs.Sums.{AreSmall}
use Rattle.st_model.specs.Valid.{IsValid}
use Rattle.st_model.specs.steps.CreatePool.{create_answer, create_plain, data_rows, new_pool, with_pool}
use Rattle.st_model.specs.Checks.{sectors_of}
use Rattle.st_model.specs.Shown.{started_pools, halted_pools}
use Rattle.st_model.proofs.Fresh.{create_fresh}
use Rattle.st_model.proofs.Lists.{All-end, All-weaker}
use Rattle.st_model.proofs.OnTable.{none_called, table_answer-is}
use Rattle.st_model.proofs.Validity.{step-keeps}
use Rattle.st_plain.specs.Created.{cell_made, known_made, pool_made, reply_made, table_made}
use Rattle.st_plain.specs.Parts.{PartIs, IsAnswered, CellIsShown}
use Rattle.st_plain.specs.Views.{CellView, TableView, pools_of}
use Rattle.st_plain.proofs.Reported.{pool_names}

-- devices of a rack are small, so a pool on a few of them may be shown
small_sectors : (path : Text) (rows : List DevRow) → AllByRecursion (λ (row : DevRow). row.sectors ≤ 2 ^ 32) rows → sectors_of path rows ≤ 2 ^ 32
small_sectors path [] h = omega arith
small_sectors path (r ∷ rs) h = here (bytes_eq r.path path) (small_sectors path rs h.1)
  where
    here : (b : Bool) → sectors_of path rs ≤ 2 ^ 32 → Rattle.std.specs.Prelude.unwrap_or (Rattle.std.specs.Prelude.option_map (λ (row : DevRow). row.sectors) (cond b (Some r) (find (λ (row : DevRow). bytes_eq row.path path) rs))) 0 ≤ 2 ^ 32
    here true rest = h.0
    here false rest = rest

small_rows : (rows : List DevRow) (paths : List Text) → AllByRecursion (λ (row : DevRow). row.sectors ≤ 2 ^ 32) rows → AllByRecursion (λ (row : DevRow). row.sectors ≤ 2 ^ 32) (data_rows rows paths)
small_rows rows [] h = tt
small_rows rows (p ∷ ps) h = (small_sectors p rows h, small_rows rows ps h)

pub data_rows-AreSmall : (rows : List DevRow) (paths : List Text) → AllByRecursion (λ (row : DevRow). row.sectors ≤ 2 ^ 32) rows → length paths ≤ 16 → AreSmall (data_rows rows paths)
data_rows-AreSmall rows paths small few = record {
  few = let e = length-map paths (λ path. let row : DevRow = record { path = path; tier = DataTier; sectors = sectors_of path rows } in row) in rw e few;
  small = small_rows rows paths small;
}

-- each cell is found by its name
head_found : (c : CellView) (ps : List PoolState) → pool_at c.pool.name (c.pool ∷ ps) ≡ Some c.pool
head_found c ps = ap (λ b. cond b (Some c.pool) (pool_at c.pool.name ps)) ((bytes_eq-Decides c.pool.name c.pool.name).1 refl)

past_head : (p : PoolState) (ps : List PoolState) (cs : List CellView) → AllByRecursion (λ n. bytes_eq p.name n ≡ false) (pool_names (pools_of cs))
    → AllByRecursion (λ (c : CellView). pool_at c.pool.name ps ≡ Some c.pool) cs → AllByRecursion (λ (c : CellView). pool_at c.pool.name (p ∷ ps) ≡ Some c.pool) cs
past_head p ps [] apart h = tt
past_head p ps (c ∷ cs) apart h = (ap (λ b. cond b (Some p) (pool_at c.pool.name ps)) apart.0 ∙ h.0, past_head p ps cs apart.1 h.1)

each_found : (cs : List CellView) → IsDistinct bytes_eq (pool_names (pools_of cs)) → AllByRecursion (λ (c : CellView). pool_at c.pool.name (pools_of cs) ≡ Some c.pool) cs
each_found [] apart = tt
each_found (c ∷ cs) apart =
    (head_found c (pools_of cs), past_head c.pool (pools_of cs) cs (IsDistinct-head bytes_eq c.pool.name (pool_names (pools_of cs)) apart) (each_found cs (IsDistinct-tail bytes_eq c.pool.name (pool_names (pools_of cs)) apart)))

-- a cell that was there has the state's pool
still_shown : (s : EngineState) (cs : List CellView) (t : TableState) → PartIs s (pools_of cs) t → AllByRecursion (CellIsShown s) cs
still_shown s cs t part = All-weaker _ _ cs (λ (c : CellView) h. inr (sym (part.pools.found c.pool.name) ∙ h)) (each_found cs part.pools.apart)

-- the look-up and the names agree
pub named : (n : Text) (ps : List PoolState) → list_any (bytes_eq n) (pool_names ps) ≡ is_some (pool_at n ps)
named n [] = refl
named n (p ∷ ps) = ap (λ b. b || list_any (bytes_eq n) (pool_names ps)) (nat_list_eq_equiv.symm n p.name) ∙ here (bytes_eq p.name n) (named n ps)
  where
    here : (b : Bool) → list_any (bytes_eq n) (pool_names ps) ≡ is_some (pool_at n ps) → (b || list_any (bytes_eq n) (pool_names ps)) ≡ is_some (cond b (Some p) (pool_at n ps))
    here true h = refl
    here false h = h

-- what the table and the cells answer is what the state answers
answer-is : (s : EngineState) (name : Text) (paths : List Text) (cs : List CellView) (t : TableState) → IsValid s → PartIs s (pools_of cs) t
    → table_answer t (pool_at name (pools_of cs)) name paths ≡ create_answer s name paths
answer-is s name paths cs t valid part =
    ap (λ o. table_answer t o name paths) (part.pools.found name) ∙ (ap (λ u. table_answer u (pool_at name (started s)) name paths) part.board ∙ table_answer-is s name paths valid.apart)

abbrev outcome : EngineState → Text → List Text → Option Reply → Reply × EngineState
outcome s name paths answer = unless_answered answer s (accepted (Created true (Some (s.next, distinct paths))), with_pool s (new_pool s.next name (data_rows s.devices (distinct paths))))

step-is : (s : EngineState) (name : Text) (paths : List Text) (answer : Option Reply) → create_answer s name paths ≡ answer → step s (CreatePool name paths) Plain ≡ outcome s name paths answer
unfolding create_plain
step-is s name paths answer h = ap (outcome s name paths) h

-- the call is answered with nothing changed
pub answered-is : (s : EngineState) (name : Text) (paths : List Text) (reply : Reply) (cs : List CellView) (t : TableView) → IsValid s → PartIs s (pools_of cs) t.state
    → table_answer t.state (pool_at name (pools_of cs)) name paths ≡ Some reply → IsAnswered s (CreatePool name paths) reply cs t
answered-is s name paths reply cs t valid part h =
    let ends : step s (CreatePool name paths) Plain ≡ (reply, s) = step-is s name paths (Some reply) (sym (answer-is s name paths cs t.state valid part) ∙ h) in
    record {
      answer = ap (λ (o : Reply × EngineState). o.0) (sym ends);
      part = subst (λ (o : Reply × EngineState). PartIs o.1 (pools_of cs) t.state) (sym ends) part;
      infos = still_shown s cs t.state part;
      table_info = inr part.board;
    }

paths_of_rows : (rows : List DevRow) (paths : List Text) → map (λ (row : DevRow). row.path) (data_rows rows paths) ≡ paths
paths_of_rows rows [] = refl
paths_of_rows rows (p ∷ ps) = ap (λ qs. p ∷ qs) (paths_of_rows rows ps)

known-is : (s : EngineState) (name : Text) (paths : List Text) → known_made (table_of s) name paths ≡ known (new_pool s.next name (data_rows s.devices (distinct paths)))
unfolding known_made
known-is s name paths = ap with_devices (sym (append-nil (map (λ (row : DevRow). row.path) (data_rows s.devices (distinct paths))) ∙ paths_of_rows s.devices (distinct paths)))
  where
    with_devices : List Text → KnownPool
    with_devices ds = record { name = name; serial = s.next; new = None; devices = ds }

-- the table with the new pool is that of the state with it
board-is : (s : EngineState) (name : Text) (paths : List Text)
    → with_known (table_of s) (known_made (table_of s) name paths) ≡ table_of (with_pool s (new_pool s.next name (data_rows s.devices (distinct paths))))
board-is s name paths =
    let q = new_pool s.next name (data_rows s.devices (distinct paths)) in
    let names : map known s.pools ++ known_made (table_of s) name paths ∷ [] ≡ map known (s.pools ++ q ∷ []) = ap (λ k. map known s.pools ++ k ∷ []) (known-is s name paths) ∙ sym (map-append known s.pools (q ∷ [])) in
    let stopped : halted_pools s.pools ≡ halted_pools (s.pools ++ q ∷ []) = sym (filter-append (λ (p : PoolState). not (is_started p.mode)) s.pools (q ∷ []) ∙ append-nil (halted_pools s.pools)) in
    ap (λ ks. table ks (halted_pools s.pools)) names ∙ ap (table (map known (s.pools ++ q ∷ []))) stopped
  where
    table : List KnownPool → List PoolState → TableState
    table ks ps = record { names = ks; stopped = ps; devices = s.devices; next = s.next + 1 }

-- the cells with the new pool's are those of the state with it
part_with : (s : EngineState) (name : Text) (paths : List Text) (ps : List PoolState) (t : TableState) → PartIs s ps t → create_answer s name paths ≡ None
    → PartIs (with_pool s (new_pool s.next name (data_rows s.devices (distinct paths)))) (ps ++ new_pool s.next name (data_rows s.devices (distinct paths)) ∷ []) (with_known (table_of s) (known_made (table_of s) name paths))
part_with s name paths ps t part fresh = record {
  pools = record {
    apart =
        let none : pool_at name ps ≡ None = part.pools.found name ∙ none_called name s.pools (create_fresh s name paths fresh).names in
        let new_name : list_any (bytes_eq name) (pool_names ps) ≡ false = named name ps ∙ ap is_some none in
        subst (IsDistinct bytes_eq) (sym (map-append (λ (p : PoolState). p.name) ps (q ∷ []))) (IsDistinct-push nat_list_eq_equiv (pool_names ps) name part.pools.apart new_name);
    found = λ n.
        find-append (is_called n) ps (q ∷ []) ∙ (ap (λ o. option_or o (pool_at n (q ∷ []))) (part.pools.found n)
        ∙ (sym (find-append (is_called n) (started s) (q ∷ [])) ∙ ap (pool_at n) (sym (filter-append (λ (p : PoolState). is_started p.mode) s.pools (q ∷ [])))));
  };
  board = board-is s name paths;
}
  where
    q : PoolState
    q = new_pool s.next name (data_rows s.devices (distinct paths))

-- the pool is made
made : (s : EngineState) (name : Text) (paths : List Text) (cs : List CellView) (t : TableState) → PartIs s (pools_of cs) t → create_answer s name paths ≡ None
    → IsAnswered s (CreatePool name paths) (reply_made (table_of s) paths) (cs ++ cell_made (table_of s) name paths ∷ []) (table_made (table_of s) name paths)
unfolding reply_made pool_made
made s name paths cs t part fresh =
    let ends = step-is s name paths None fresh in
    let q = new_pool s.next name (data_rows s.devices (distinct paths)) in
    let whole = subst (λ (ps : List PoolState). PartIs (with_pool s q) ps (with_known (table_of s) (known_made (table_of s) name paths))) (sym (map-append (λ (c : CellView). c.pool) cs (cell_made (table_of s) name paths ∷ []))) (part_with s name paths (pools_of cs) t part fresh) in
    record {
      answer = ap (λ (o : Reply × EngineState). o.0) (sym ends);
      part = subst (λ (o : Reply × EngineState). PartIs o.1 (pools_of (cs ++ cell_made (table_of s) name paths ∷ [])) (with_known (table_of s) (known_made (table_of s) name paths))) (sym ends) whole;
      infos = All-end (CellIsShown s) cs (cell_made (table_of s) name paths) (still_shown s cs t part) (inl refl);
      table_info = inl refl;
    }

pub made-is : (s : EngineState) (name : Text) (paths : List Text) (cs : List CellView) (t : TableState) → IsValid s → PartIs s (pools_of cs) t → table_answer t (pool_at name (pools_of cs)) name paths ≡ None
    → IsAnswered s (CreatePool name paths) (reply_made t paths) (cs ++ cell_made t name paths ∷ []) (table_made t name paths)
made-is s name paths cs t valid part h =
    subst (λ (u : TableState). IsAnswered s (CreatePool name paths) (reply_made u paths) (cs ++ cell_made u name paths ∷ []) (table_made u name paths)) (sym part.board)
    (made s name paths cs t part (sym (answer-is s name paths cs t valid part) ∙ h))

less_or_more : (b : Bool) (p : PoolState) (ps qs : List PoolState) → length ps ≤ length qs → length (cond b (p ∷ ps) ps) ≤ length (p ∷ qs)
less_or_more true p ps qs h = omega (arith, h)
less_or_more false p ps qs h = omega (arith, h)

few_started : (ps : List PoolState) → length (started_pools ps) ≤ length ps
few_started [] = omega arith
few_started (p ∷ ps) = less_or_more (is_started p.mode) p (started_pools ps) ps (few_started ps)

-- no more cells than pools
pub few_cells : (s : EngineState) (cs : List CellView) (t : TableState) → IsValid s → PartIs s (pools_of cs) t → length cs ≤ 16
few_cells s cs t valid part =
    let most = length-le_from_is_member nat_list_eq_equiv (pool_names (pools_of cs)) (pool_names (started s)) part.pools.apart (λ n h. named n (started s) ∙ (ap is_some (sym (part.pools.found n)) ∙ (sym (named n (pools_of cs)) ∙ h))) in
    let cells : length (pool_names (pools_of cs)) ≡ length cs = length-map (pools_of cs) (λ (p : PoolState). p.name) ∙ length-map cs (λ (c : CellView). c.pool) in
    let pools : length (pool_names (started s)) ≡ length (started s) = length-map (started s) (λ (p : PoolState). p.name) in
    omega (arith, most, cells, pools, few_started s.pools, valid.count)

pub few_after : (s : EngineState) (name : Text) (paths : List Text) (reply : Reply) (cs : List CellView) (t : TableView) → IsValid s → IsAnswered s (CreatePool name paths) reply cs t → length cs ≤ 16
few_after s name paths reply cs t valid answered = few_cells (step s (CreatePool name paths) Plain).1 cs t.state (step-keeps s (CreatePool name paths) Plain valid) answered.part
