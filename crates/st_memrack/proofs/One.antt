-- One device of a list makes a step: what stays, and what becomes of it.
use Rattle.std.proofs.Common.{◌≡◌, ◌≢◌, ℕ, List, get_or, slice_set, sym, ◌∙◌, ap, subst}
use Rattle.st_rack.specs.Device.{Path, DevState}
use Rattle.st_rack.specs.Moments.{OnDevice}
use Rattle.st_shelf.specs.Shelf.{look, rows_of, state_in, IsFirst}
use Rattle.st_shelf.proofs.Look.{first_path, look_first, look_set_same, look_set_other, look_set_kept, rows_set}
use Rattle.st_shelf.proofs.Change.{one_device}
use Rattle.st_memrack.specs.One.{OneStep}

module _ {D : Type 0} (path : D → Path) (step : D → D → Type 0) (dev : Path) where
  pub one_of : (old : List D) (i : ℕ) (d v : D) → IsFirst path old dev i → d ≡ get_or old i d → path v ≡ path d → step d v → OneStep path step dev old (slice_set old i v)
  one_of old i d v first was same h = record {
    place = i;
    before = d;
    after = v;
    first = first;
    was = was;
    is = λ _. slice_set old i v;
    named = same ∙ ap path was ∙ first_path path old dev i d first;
    here = h;
  }

  module _ (old new : List D) (one : OneStep path step dev old new) where
    pub rows_one : (size : D → ℕ) → ((a b : D) → step a b → size b ≡ size a) → rows_of path size new ≡ rows_of path size old
    rows_one size same =
        ap (λ (l : List D). rows_of path size l) one.is
        ∙ rows_set path size old dev one.place one.after one.before one.first one.named (same one.before one.after one.here ∙ ap size one.was)

    pub look_before : {A : Type 0} (f : D → A) (none : A) → look path f none old dev ≡ f one.before
    look_before f none = look_first path f none old dev one.place one.before one.first ∙ ap f (sym one.was)

    pub look_after : {A : Type 0} (f : D → A) (none : A) → look path f none new dev ≡ f one.after
    look_after f none = ap (λ (l : List D). look path f none l dev) one.is ∙ look_set_same path f none old dev one.place one.after one.first one.named

    pub look_same : {A : Type 0} (f : D → A) (none : A) → ((a b : D) → step a b → f b ≡ f a) → (p : Path) → look path f none new p ≡ look path f none old p
    look_same f none same p =
        ap (λ (l : List D). look path f none l p) one.is
        ∙ look_set_kept path f none old dev one.place one.after one.before p one.first one.named (same one.before one.after one.here ∙ ap f one.was)

    pub look_other : {A : Type 0} (f : D → A) (none : A) (p : Path) → p ≢ dev → look path f none new p ≡ look path f none old p
    look_other f none p ne = ap (λ (l : List D). look path f none l p) one.is ∙ look_set_other path f none old dev one.place one.after p one.first one.named ne

    pub on_device : (state : D → DevState) (P : DevState → DevState → Type 0) → ((a b : D) → step a b → P (state a) (state b)) → OnDevice dev P (state_in path state old) (state_in path state new)
    on_device state P does =
        subst (λ (l : List D). OnDevice dev P (state_in path state old) (state_in path state l)) (sym one.is)
        (one_device path state old dev one.place one.after one.before P one.first one.named
        (subst (λ (d : D). P (state d) (state one.after)) one.was (does one.before one.after one.here)))
