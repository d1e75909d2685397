-- settings and checks change rows, and nothing that is read
use Rattle.std.proofs.Common.{◌≡◌, ℕ, ◌+◌, ◌==◌, List, [], ◌∷◌, Bool, true, false, cond, map, Option, Some, None, option_map, bytes_eq, refl, ap, ◌∙◌}
use Rattle.st_units.specs.declared.rows.FsRow.{FsRow}
use Rattle.st_model.specs.declared.reply.Reply.{Reply}
use Rattle.st_model.specs.declared.state.FsState.{FsState}
use Rattle.st_model.specs.declared.state.PoolState.{PoolState}
use Rattle.st_model.specs.Answer.{first_answer, unless_answered}
use Rattle.st_model.specs.Checks.{fs_at, in_fs, rows_changed, with_row}
use Rattle.st_model.specs.Content.{sector_bytes}
use Rattle.st_model.specs.Look.{Text}
use Rattle.st_model.specs.steps.Check.{blocks_added, check_answers, check_pool, new_sizes, resized}
use Rattle.st_model.specs.steps.SetFsLimit.{limit_answers, set_fs_limit}
use Rattle.st_model.specs.steps.SetMerge.{mark_fs, merge_answers, set_merge, with_mark}
use Rattle.st_model.specs.steps.SetOverprovisioning.{overprovisioning_answers, set_overprovisioning}
use Rattle.st_model.specs.steps.SetSizeLimit.{limit_fs, limited, set_size_limit, size_limit_answers}
use Rattle.st_laws.specs.Reads.{reads_in}

-- other rows with the same names
rows-read : (change : FsRow → FsRow) → ((row : FsRow) → (change row).name ≡ row.name) → (serial : ℕ) (p : PoolState) (file : Text) (k : ℕ) → reads_in file k (rows_changed change serial p) ≡ reads_in file k p
rows-read change same serial p file k = all p.filesystems
  where
    one : (b : Bool) (x : FsState) (fss : List FsState)
        → option_map (λ (y : FsState). sector_bytes p y k) (fs_at file (map (with_row change serial) fss)) ≡ option_map (λ (y : FsState). sector_bytes p y k) (fs_at file fss)
        → option_map (λ (y : FsState). sector_bytes p y k) (fs_at file (cond b (record x { row = change x.row }) x ∷ map (with_row change serial) fss)) ≡ option_map (λ (y : FsState). sector_bytes p y k) (fs_at file (x ∷ fss))
    one true x fss rest =
        ap (λ (n : Text). option_map (λ (y : FsState). sector_bytes p y k) (cond (bytes_eq n file) (Some (record x { row = change x.row })) (fs_at file (map (with_row change serial) fss)))) (same x.row)
        ∙ named (bytes_eq x.row.name file) rest
      where
        named : (b : Bool) → option_map (λ (y : FsState). sector_bytes p y k) (fs_at file (map (with_row change serial) fss)) ≡ option_map (λ (y : FsState). sector_bytes p y k) (fs_at file fss)
            → option_map (λ (y : FsState). sector_bytes p y k) (cond b (Some (record x { row = change x.row })) (fs_at file (map (with_row change serial) fss))) ≡ option_map (λ (y : FsState). sector_bytes p y k) (cond b (Some x) (fs_at file fss))
        named true rest = refl
        named false rest = rest
    one false x fss rest = named (bytes_eq x.row.name file) rest
      where
        named : (b : Bool) → option_map (λ (y : FsState). sector_bytes p y k) (fs_at file (map (with_row change serial) fss)) ≡ option_map (λ (y : FsState). sector_bytes p y k) (fs_at file fss)
            → option_map (λ (y : FsState). sector_bytes p y k) (cond b (Some x) (fs_at file (map (with_row change serial) fss))) ≡ option_map (λ (y : FsState). sector_bytes p y k) (cond b (Some x) (fs_at file fss))
        named true rest = refl
        named false rest = rest

    all : (fss : List FsState) → option_map (λ (y : FsState). sector_bytes p y k) (fs_at file (map (with_row change serial) fss)) ≡ option_map (λ (y : FsState). sector_bytes p y k) (fs_at file fss)
    all [] = refl
    all (x ∷ fss) = one (x.row.serial == serial) x fss (all fss)

-- other sizes
sizes-read : (p : PoolState) (file : Text) (k : ℕ) (fss : List FsState) (sizes : List ℕ) → option_map (λ (y : FsState). sector_bytes p y k) (fs_at file (resized fss sizes)) ≡ option_map (λ (y : FsState). sector_bytes p y k) (fs_at file fss)
sizes-read p file k [] sizes = refl
sizes-read p file k (x ∷ fss) [] = refl
sizes-read p file k (x ∷ fss) (size ∷ sizes) = here (bytes_eq x.row.name file) (sizes-read p file k fss sizes)
  where
    here : (b : Bool) → option_map (λ (y : FsState). sector_bytes p y k) (fs_at file (resized fss sizes)) ≡ option_map (λ (y : FsState). sector_bytes p y k) (fs_at file fss)
        → option_map (λ (y : FsState). sector_bytes p y k) (cond b (Some (record x { row = record x.row { size = size } })) (fs_at file (resized fss sizes))) ≡ option_map (λ (y : FsState). sector_bytes p y k) (cond b (Some x) (fs_at file fss))
    here true rest = refl
    here false rest = rest

unless-read : (a : Option Reply) (p q : PoolState) (r : Reply) (file : Text) (k : ℕ) → reads_in file k q ≡ reads_in file k p → reads_in file k (unless_answered a p (r, q)).1 ≡ reads_in file k p
unless-read (Some answer) p q r file k h = refl
unless-read None p q r file k h = h

fs-read : (f : FsState → PoolState → Reply × PoolState) (p : PoolState) (file : Text) (k : ℕ) → ((fs : FsState) → reads_in file k (f fs p).1 ≡ reads_in file k p) → (o : Option FsState) → reads_in file k (in_fs f p o).1 ≡ reads_in file k p
fs-read f p file k h None = refl
fs-read f p file k h (Some fs) = h fs

pub check-keeps : (p : PoolState) (file : Text) (k : ℕ) → reads_in file k (check_pool p).1 ≡ reads_in file k p
unfolding check_pool
check-keeps p file k =
    unless-read (first_answer (check_answers p)) p (record p { allocated = p.allocated + blocks_added p; filesystems = resized p.filesystems (new_sizes p); commits = p.commits + 1 }) _ file k (sizes-read p file k p.filesystems (new_sizes p))

pub limit-keeps : (limit : ℕ) (p : PoolState) (file : Text) (k : ℕ) → reads_in file k (set_fs_limit limit p).1 ≡ reads_in file k p
unfolding set_fs_limit
limit-keeps limit p file k = unless-read (first_answer (limit_answers limit p)) p (record p { filesystem_limit = limit; commits = p.commits + 1 }) _ file k refl

pub overprovisioning-keeps : (value : Bool) (p : PoolState) (file : Text) (k : ℕ) → reads_in file k (set_overprovisioning value p).1 ≡ reads_in file k p
unfolding set_overprovisioning
overprovisioning-keeps value p file k = unless-read (first_answer (overprovisioning_answers value p)) p (record p { overprovisioning = value; commits = p.commits + 1 }) _ file k refl

pub size_limit-keeps : (name : Text) (limit : Option ℕ) (p : PoolState) (file : Text) (k : ℕ) → reads_in file k (set_size_limit name limit p).1 ≡ reads_in file k p
unfolding set_size_limit
size_limit-keeps name limit p file k =
    fs-read (limit_fs limit) p file k (λ fs. unless-read (first_answer (size_limit_answers limit fs p)) p (rows_changed (limited limit) fs.row.serial p) _ file k (rows-read (limited limit) (λ row. refl) fs.row.serial p file k)) (fs_at name p.filesystems)

pub merge-keeps : (name : Text) (value : Bool) (p : PoolState) (file : Text) (k : ℕ) → reads_in file k (set_merge name value p).1 ≡ reads_in file k p
unfolding set_merge
merge-keeps name value p file k =
    fs-read (mark_fs value) p file k (λ fs. unless-read (first_answer (merge_answers value fs p)) p (rows_changed (with_mark value) fs.row.serial p) _ file k (rows-read (with_mark value) (λ row. refl) fs.row.serial p file k)) (fs_at name p.filesystems)
