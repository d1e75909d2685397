-- What a pool answers without a commit is what the model answers of it.
use Rattle.std.proofs.Common.{◌≡◌, ◌==◌, ◌<◌, ◌≤◌, ◌^◌, Bool, true, false, not, cond, bytes_eq, List, [], ◌∷◌, length, Option, Some, None, refl, sym, ◌∙◌, ap, arith}
use Rattle.std.proofs.lemmas.Bool.Decides.{nat_tests}
use Rattle.st_limits.specs.declared.TheConstants.{MAX_COMMITS}
use Rattle.st_units.specs.declared.rows.FsRow.{FsRow}
use Rattle.st_units.specs.declared.cause.Cause.TheVariants.{NotEmpty, Worn}
use Rattle.st_model.specs.declared.call.Call.{Call}
use Rattle.st_model.specs.declared.reply.Given.TheVariants.{Changed}
use Rattle.st_model.specs.declared.reply.Reply.{Reply}
use Rattle.st_model.specs.Answer.{accepted, first_answer, refused_where}
use Rattle.st_model.specs.Checks.{not_up, worn}
use Rattle.st_model.specs.Look.{Text, flight_of, gives_name}
use Rattle.st_rack.specs.Device.{Image}
use Rattle.st_rack.specs.Calls.{Devices}
use Rattle.st_image.specs.Stands.{filesystems_of}
use Rattle.st_books.specs.declared.books.Books.{Books}
use Rattle.st_pool.specs.View.{mode_with, pool_with}
use Rattle.st_pool.specs.inner.Plans.{refusal, rename_refusal}
use Rattle.st_pool.proofs.Stepping.{answers, end_answers, same_name, other_name}

alone : (o : Option Reply) → first_answer (o ∷ []) ≡ o
alone None = refl
alone (Some reply) = refl

module _ (b : Books) (m : Image) (devs : Devices) where
  stopped : (flight : Option Call) → first_answer (not_up (pool_with b flight m) (mode_with flight) ∷ worn (pool_with b flight m) ∷ []) ≡ refusal b flight
  stopped None = alone (refused_where (b.generation == MAX_COMMITS) Worn)
  stopped (Some call) = refl

  pub rename_answer : (flight : Option Call) (new : Text) → gives_name new (flight_of (mode_with flight)) ≡ false → answers (pool_with b flight m) devs new ≡ rename_refusal b flight new
  rename_answer flight new free = by (bytes_eq b.rec.name new) refl
    where
      by : (t : Bool) → bytes_eq b.rec.name new ≡ t → answers (pool_with b flight m) devs new ≡ rename_refusal b flight new
      by true e = same_name (pool_with b flight m) devs new e ∙ sym (ap (λ (t : Bool). cond t (Some (accepted (Changed false None))) (refusal b flight)) e)
      by false e = other_name (pool_with b flight m) devs new e free ∙ stopped flight ∙ sym (ap (λ (t : Bool). cond t (Some (accepted (Changed false None))) (refusal b flight)) e)

  pub end_answer : (flight : Option Call) → b.flex.filesystems ≡ [] → end_answers (pool_with b flight m) devs ≡ refusal b flight
  end_answer None none =
      ap (λ (rows : List FsRow). first_answer (None ∷ refused_where (not (length (filesystems_of (record b.flex { filesystems = rows })) == 0)) (NotEmpty (length (filesystems_of (record b.flex { filesystems = rows })))) ∷ worn (pool_with b None m) ∷ [])) none
      ∙ stopped None
  end_answer (Some call) none = refl

-- where nothing is refused, no call is in flight, and one commit more may be made
pub no_flight : (b : Books) (flight : Option Call) → refusal b flight ≡ None → flight ≡ None
no_flight b None e = refl
no_flight b (Some call) e = absurd (cc)

pub not_renamed : (b : Books) (flight : Option Call) (new : Text) → rename_refusal b flight new ≡ None → refusal b flight ≡ None
not_renamed b flight new e = by (bytes_eq b.rec.name new) e
  where
    by : (t : Bool) → cond t (Some (accepted (Changed false None))) (refusal b flight) ≡ None → refusal b flight ≡ None
    by true e = absurd (cc)
    by false e = e

pub not_worn : (b : Books) → b.generation ≤ 2 ^ 48 → refusal b None ≡ None → b.generation < 2 ^ 48
not_worn b le e = by (b.generation == MAX_COMMITS) refl e
  where
    by : (t : Bool) → (b.generation == MAX_COMMITS) ≡ t → refused_where t Worn ≡ None → b.generation < 2 ^ 48
    by true is e = absurd (cc)
    by false is e = grind (arith, nat_tests)
