-- What a device shows after bytes were put in.
use Rattle.std.proofs.Common.{◌≡◌, ℕ, ◌+◌, ◌≤◌, ◌<◌, List, length, ◌∙◌, ap}
use Rattle.st_rack.specs.Story.{Content, put_in}
use Rattle.st_rack.specs.Device.{cells}
use Rattle.st_rack.proofs.Readers.{put_in_given, put_in_outside}
use Rattle.st_rack.proofs.Pending.{within_below, within_above}

module _ (at : ℕ) (bytes : List ℕ) (f g : Content) (step : (i : ℕ) → g i ≡ put_in at bytes f i) where
  pub put_written : cells g at (length bytes) ≡ bytes
  put_written = ap (λ (h : Content). cells h at (length bytes)) (λ j i. step i j) ∙ put_in_given at bytes f

  pub put_below : (i : ℕ) → i < at → g i ≡ f i
  put_below i lt = step i ∙ put_in_outside at bytes f i (within_below at (length bytes) i lt)

  pub put_above : (i : ℕ) → at + length bytes ≤ i → g i ≡ f i
  put_above i le = step i ∙ put_in_outside at bytes f i (within_above at (length bytes) i le)
