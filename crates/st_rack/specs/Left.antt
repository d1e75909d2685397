-- What a crash may leave, with no torn text in it valid by chance.
use Rattle.std.specs.Prelude.{◌≡◌, ℕ, ◌≤◌, List, Option, Some, slice_get}
use Rattle.st_rack.specs.Story.{Content, NoChance}
use Rattle.st_rack.specs.Device.{Path, DevState, State, Image, Leaves}
use Rattle.st_rack.specs.Calls.{Devices, Has}

-- A crash may leave this content on the device, and for these readers no torn text in it is valid by chance.
pub record LeavesFairly {I X : Type 0} (read : I → Content → Option X) (s : DevState) (f : Content) : Type 0 where
  pub left : Leaves s f
  pub fair : (r : I) → NoChance (read r) s.story f

-- So it is of each device of a rack. Nothing is said of other paths.
abbrev pub FairlyLeaves : {I X : Type 0} → Devices → (I → Path → Content → Option X) → State → Image → Type 0
FairlyLeaves devs read state c = (p : Path) (n : ℕ) → Has devs p n → LeavesFairly (λ r. read r p) (state p) (c p)

-- So it is of the devices of a list, each read in the role that its place in the list gives it.
abbrev pub LeftOn : {I X : Type 0} → List Path → (ℕ → I → Content → Option X) → State → Image → Type 0
LeftOn list read state c = (k : ℕ) (p : Path) → slice_get list k ≡ Some p → LeavesFairly (read k) (state p) (c p)

-- a crash now fairly leaves this of a rack
abbrev pub FairlyLeft : {D I X : Type 0} → (D → Devices) → (D → ℕ) → (D → ℕ → State) → (I → Path → Content → Option X) → D → Image → Type 0
FairlyLeft devs moment state_at read rack c = FairlyLeaves (devs rack) read (state_at rack (moment rack)) c

-- a crash at some moment from t on fairly left this
pub record FairlyLeftSince {D I X : Type 0} (devs : D → Devices) (moment : D → ℕ) (state_at : D → ℕ → State) (read : I → Path → Content → Option X) (rack : D) (t : ℕ) (c : Image) : Type 0 where
  pub at : ℕ
  pub from : t ≤ at
  pub until : at ≤ moment rack
  pub left : FairlyLeaves (devs rack) read (state_at rack at) c
