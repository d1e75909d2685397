-- What a write and a power cut do to a device.
use Rattle.std.proofs.Common.{◌≡◌, inl, inr, ℕ, ◌*◌, ◌≤◌, true, Option, None, List, [], ◌∷◌, ◌++◌, length, sym, ◌∙◌, ap, arith}
use Rattle.std.proofs.lemmas.Bool.{cases_Bool}
use Rattle.st_rack.specs.Story.{Content, Wrote, Settled, put_in, unsettled}
use Rattle.st_rack.specs.Device.{DevState, Touched, Written, Cut, cells}
use Rattle.st_rack.proofs.Readers.{put_in_given}
use Rattle.st_sparse.specs.Since.{reached, content, is_torn, Adds}
use Rattle.st_sparse.specs.declared.kinds.Pick.{Pick}
use Rattle.st_sparse.specs.declared.kinds.Pick.TheVariants.{New}
use Rattle.st_sparse.specs.declared.torn.Torn.{Torn}
use Rattle.st_sparse.proofs.Over.{put_in_below, put_in_above}
use Rattle.st_sparse.proofs.Tears.{reached_fewer, content_last, content_outside}

-- what is held after a write
pub added : (sector : ℕ) (bytes : List ℕ) (took : Pick) (old new : List Torn) (f g : Content) → Adds sector bytes took old new → g ≡ f
    → content None new g ≡ put_in (512 * sector) (reached took bytes) (content None old f)
added sector bytes took old new f g adds same =
    (λ i. content None (adds.last i) (same i)) ∙ content_last None old adds.write f
    ∙ (λ i. put_in (512 * adds.place i) (reached (adds.part i) (adds.text i)) (content None old f))

pub touched_by : (at : ℕ) (bytes part : List ℕ) (a b : DevState) → length part ≤ length bytes → b.holds ≡ put_in at part a.holds → b.story ≡ Wrote at bytes a.story → Touched at bytes a b
touched_by at bytes part a b fewer holds told = record {
  below = λ i lt. ap (λ (f : Content). f i) holds ∙ put_in_below at part a.holds i lt;
  above = λ i le. ap (λ (f : Content). f i) holds ∙ put_in_above at part a.holds i (omega (arith, fewer, le));
  told = told;
}

pub touched_none : (at : ℕ) (bytes : List ℕ) (a b : DevState) → b.holds ≡ a.holds → b.story ≡ Wrote at bytes a.story → Touched at bytes a b
touched_none at bytes a b holds told = record {
  below = λ i lt. ap (λ (f : Content). f i) holds;
  above = λ i le. ap (λ (f : Content). f i) holds;
  told = told;
}

pub written_by : (at : ℕ) (bytes : List ℕ) (b : DevState) (f : Content) → b.holds ≡ put_in at bytes f → Written at bytes b
written_by at bytes b f holds = ap (λ (g : Content). cells g at (length bytes)) holds ∙ put_in_given at bytes f

-- a power cut changes pending bytes alone
pub cut_by : (pick : Option Pick) (since : List Torn) (f : Content) (a b : DevState) → a.holds ≡ content None since f → b.holds ≡ content pick since f
    → ((i : ℕ) → is_torn since i ≡ true → unsettled a.story i ≡ true) → b.story ≡ Settled b.holds a.story → Cut a b
cut_by pick since f a b was is told settled = record {
  left = λ i sure. elim (cases_Bool (is_torn since i)) [
    | inl torn ↦ absurd (let pending = told i torn in cc)
    | inr calm ↦
        ap (λ (g : Content). g i) is ∙ content_outside pick since f i calm
        ∙ sym (ap (λ (g : Content). g i) was ∙ content_outside None since f i calm)
  ];
  told = settled;
}

pub pushed : (sector : ℕ) (bytes : List ℕ) (took : Pick) (old new : List Torn) (w : Torn) → new ≡ old ++ w ∷ [] → w.sector ≡ sector → w.bytes.items ≡ bytes → w.took ≡ took → Adds sector bytes took old new
pushed sector bytes took old new w last place text part = record { write = w; last = last; place = place; text = text; part = part }

pub added_touches : (sector : ℕ) (bytes : List ℕ) (took : Pick) (old new : List Torn) (f g : Content) (a b : DevState) → Adds sector bytes took old new → g ≡ f
    → a.holds ≡ content None old f → b.holds ≡ content None new g → b.story ≡ Wrote (512 * sector) bytes a.story → Touched (512 * sector) bytes a b
added_touches sector bytes took old new f g a b adds same was is told =
    touched_by (512 * sector) bytes (reached took bytes) a b (reached_fewer took bytes)
    (is ∙ added sector bytes took old new f g adds same ∙ ap (λ (h : Content). put_in (512 * sector) (reached took bytes) h) (sym was)) told

pub added_writes : (sector : ℕ) (bytes : List ℕ) (took : Pick) (old new : List Torn) (f g : Content) (b : DevState) → Adds sector bytes took old new → g ≡ f
    → b.holds ≡ content None new g → took ≡ New → Written (512 * sector) bytes b
added_writes sector bytes took old new f g b adds same is all =
    written_by (512 * sector) bytes b (content None old f)
    (is ∙ added sector bytes took old new f g adds same ∙ ap (λ (p : Pick). put_in (512 * sector) (reached p bytes) (content None old f)) all)
