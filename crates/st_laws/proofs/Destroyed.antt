-- what a pool reads after some filesystems went
use Rattle.std.proofs.Common.{◌≡◌, ℕ, ◌/◌, ◌%◌, ◌*◌, not, inl, inr, List, [], ◌∷◌, filter, take, drop, replicate, Bool, true, false, cond, Option, Some, None, option_map, unwrap_or, bytes_eq, refl, sym, ap, ◌∙◌, subst}
use Rattle.std.specs.List.{find}
use Rattle.std.proofs.lemmas.Slice.Eq.{bytes_eq-Decides}
use Rattle.st_model.specs.declared.reply.Reply.{Reply}
use Rattle.st_model.specs.declared.state.FsState.{FsState}
use Rattle.st_model.specs.declared.state.PoolState.{PoolState}
use Rattle.st_model.specs.Answer.{first_answer, unless_answered}
use Rattle.st_model.specs.Checks.{fs_at}
use Rattle.st_model.specs.Content.{block_bytes, bytes_at, cell_at, sector_bytes}
use Rattle.st_model.specs.Look.{Text, has_path}
use Rattle.st_model.specs.steps.DestroyFilesystems.{destroy_filesystems, destroy_fs_answers, goes, left_by, next_on_line, origin_goes, remaining, to_destroy, without_filesystems}
use Rattle.st_model.proofs.Among.{IsIn, All-in}
use Rattle.st_model.proofs.Flights.{found-holds}
use Rattle.st_model.proofs.Lists.{found_passes}
use Rattle.st_model.proofs.Mapped.{find_map}
use Rattle.st_laws.specs.Reads.{reads_in}
use Rattle.st_laws.proofs.Blocks.{in_map, mapped_by, stays}

find_kept : (p q : FsState → Bool) (fss : List FsState) → ((x : FsState) → p x ≡ true → q x ≡ true) → find p (filter q fss) ≡ find p fss
find_kept p q [] h = refl
find_kept p q (x ∷ fss) h = here (p x) refl (q x) refl (find_kept p q fss h)
  where
    clash : (b : Bool) → b ≡ false → b ≡ true → ⊥
    clash b f t = absurd cc

    here : (a : Bool) → p x ≡ a → (b : Bool) → q x ≡ b → find p (filter q fss) ≡ find p fss → find p (cond b (x ∷ filter q fss) (filter q fss)) ≡ cond a (Some x) (find p fss)
    here true e true f rest = rw e refl
    here true e false f rest = absurd (clash (q x) f (h x e))
    here false e true f rest = rw e rest
    here false e false f rest = rest

pub in_filter : (q : FsState → Bool) (x : FsState) (fss : List FsState) → IsIn x fss → q x ≡ true → IsIn x (filter q fss)
in_filter q x [] i h = absurd i
in_filter q x (y ∷ fss) (inl e) h = rw (subst (λ (z : FsState). q z ≡ true) (sym e) h) (inl e)
in_filter q x (y ∷ fss) (inr i) h = here (q y) (in_filter q x fss i h)
  where
    here : (b : Bool) → IsIn x (filter q fss) → IsIn x (cond b (y ∷ filter q fss) (filter q fss))
    here true i = inr i
    here false i = i

left_name : (names : List Text) (fss : List FsState) (file : Text) (x : FsState) → bytes_eq (left_by names fss x).row.name file ≡ bytes_eq x.row.name file
left_name names fss file x = here (origin_goes names fss x.row.origin)
  where
    here : (b : Bool) → bytes_eq (cond b (record x { row = record x.row { origin = next_on_line names fss x.row.origin; merge = false } }) x).row.name file ≡ bytes_eq x.row.name file
    here true = refl
    here false = refl

left_map : (names : List Text) (fss : List FsState) (x : FsState) → (left_by names fss x).map ≡ x.map
left_map names fss x = here (origin_goes names fss x.row.origin)
  where
    here : (b : Bool) → (cond b (record x { row = record x.row { origin = next_on_line names fss x.row.origin; merge = false } }) x).map ≡ x.map
    here true = refl
    here false = refl

not_going : (b : Bool) → (b ≡ true → ⊥) → not b ≡ true
not_going true h = absurd (h refl)
not_going false h = refl

pub destroyed-other : (names : List Text) (p : PoolState) (file : Text) (k : ℕ) → (has_path file names ≡ true → ⊥) → reads_in file k (destroy_filesystems names p).1 ≡ reads_in file k p
unfolding destroy_filesystems
destroyed-other names p file k out = here (first_answer (destroy_fs_answers (to_destroy names p) p)) _
  where
    q : PoolState
    q = without_filesystems names p

    keeps : (x : FsState) → bytes_eq x.row.name file ≡ true → not (goes names x) ≡ true
    keeps x e = not_going (has_path x.row.name names) (λ h. out (subst (λ (t : Text). has_path t names ≡ true) ((bytes_eq-Decides x.row.name file).0 e) h))

    found : fs_at file q.filesystems ≡ option_map (left_by names p.filesystems) (fs_at file p.filesystems)
    found =
        find_map (λ (x : FsState). bytes_eq x.row.name file) (left_by names p.filesystems) (filter (λ (x : FsState). not (goes names x)) p.filesystems) (left_name names p.filesystems file)
        ∙ ap (option_map (left_by names p.filesystems)) (find_kept (λ (x : FsState). bytes_eq x.row.name file) (λ (x : FsState). not (goes names x)) p.filesystems keeps)

    same_block : (x : FsState) → IsIn x p.filesystems → bytes_eq x.row.name file ≡ true → (block : ℕ) → block_bytes q (left_by names p.filesystems x) block ≡ block_bytes p x block
    same_block x i e block = ap (λ m. bytes_at q.cells (cell_at block m)) (left_map names p.filesystems x) ∙ by (cell_at block x.map) refl
      where
        there : IsIn (left_by names p.filesystems x) (remaining names p.filesystems)
        there = in_map (left_by names p.filesystems) x (filter (λ (y : FsState). not (goes names y)) p.filesystems) (in_filter (λ (y : FsState). not (goes names y)) x p.filesystems i (keeps x e))

        by : (o : Option ℕ) → cell_at block x.map ≡ o → bytes_at q.cells o ≡ bytes_at p.cells o
        by None g = refl
        by (Some c) g =
            ap (λ o. unwrap_or o (replicate 65536 0))
            (stays (remaining names p.filesystems) c p.cells (mapped_by c block (left_by names p.filesystems x) (remaining names p.filesystems) there (ap (cell_at block) (left_map names p.filesystems x) ∙ g)))

    by_file : (o : Option FsState) → fs_at file p.filesystems ≡ o → option_map (λ (x : FsState). sector_bytes q x k) (option_map (left_by names p.filesystems) o) ≡ option_map (λ (x : FsState). sector_bytes p x k) o
    by_file None e = refl
    by_file (Some x) e =
        let i = found-holds (λ (y : FsState). IsIn y p.filesystems) (λ (y : FsState). bytes_eq y.row.name file) p.filesystems x (All-in p.filesystems) e in
        let named = found_passes (λ (y : FsState). bytes_eq y.row.name file) p.filesystems x e in
        ap (λ (l : List ℕ). Some (take 512 (drop (512 * (k % 128)) l))) (same_block x i named (k / 128))

    here : (a : Option Reply) (r : Reply) → reads_in file k (unless_answered a p (r, q)).1 ≡ reads_in file k p
    here (Some answer) r = refl
    here None r = ap (option_map (λ (x : FsState). sector_bytes q x k)) found ∙ by_file (fs_at file p.filesystems) refl
