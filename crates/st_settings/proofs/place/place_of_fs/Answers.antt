use Rattle.std.proofs.Common.{◌≡◌, ℕ, Option, Some, None, IfSome, IfNone, slice_get, bytes_eq, sym}
use Rattle.std.specs.List.{position}
use Rattle.st_model.specs.declared.state.FsState.{FsState}
use Rattle.st_model.specs.Checks.{fs_at}
use Rattle.st_settings.proofs.Places.{place_found, place_none}
use Rattle.st_settings.proofs.place.place_of_fs.Goals as goal

pub returns-clause-at : goal.returns-clause-at
returns-clause-at c = here c.place_in.result (sym c.place_in.ensures)
  where
    here : (o : Option ℕ) → position (λ (fs : FsState). bytes_eq fs.row.name c.args.name.now) c.args.filesystems.now ≡ o → IfSome o (λ i. fs_at c.args.name.now c.args.filesystems.now ≡ slice_get c.args.filesystems.now i)
    here None e = tt
    here (Some i) e = place_found (λ (fs : FsState). bytes_eq fs.row.name c.args.name.now) c.args.filesystems.now i e

pub returns-clause-none : goal.returns-clause-none
returns-clause-none c = here c.place_in.result (sym c.place_in.ensures)
  where
    here : (o : Option ℕ) → position (λ (fs : FsState). bytes_eq fs.row.name c.args.name.now) c.args.filesystems.now ≡ o → IfNone o (fs_at c.args.name.now c.args.filesystems.now ≡ None)
    here None e = place_none (λ (fs : FsState). bytes_eq fs.row.name c.args.name.now) c.args.filesystems.now e
    here (Some i) e = tt
