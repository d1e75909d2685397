-- From what a commit promises of slots to what it leaves of the pool.
use Rattle.std.proofs.Common.{◌≡◌, ℕ, ◌+◌, ◌<◌, ◌^◌, Bool, true, false, cond, nat_lt, List, map, Some, refl, sym, ◌∙◌, ap, subst, arith}
use Rattle.std.specs.List.{slice_get}
use Rattle.std.proofs.lemmas.Bool.{and_parts}
use Rattle.st_units.specs.declared.rows.DevRow.{DevRow}
use Rattle.st_units.specs.declared.rows.Segment.{Segment}
use Rattle.st_poolrec.specs.Record as pools
use Rattle.st_flexlog.specs.Said.{Says}
use Rattle.st_rack.specs.Device.{Path, State, held}
use Rattle.st_rack.specs.Calls.{Devices}
use Rattle.st_rack.specs.Moments.{Goes, Keeps}
use Rattle.st_rack.proofs.Moments.{at_moment, at_end}
use Rattle.st_deltalog.specs.declared.area.Tail.{Tail}
use Rattle.st_deltalog.specs.Log.{Log, next_of, begun, grown}
use Rattle.st_deltalog.specs.Bearing.{IsTail, other}
use Rattle.st_deltalog.specs.Choice.{follows, chosen, chosen_up}
use Rattle.st_commit.specs.Standing.{OneOf, standing_of}
use Rattle.st_commit.specs.Ready.{BearsRecord, IsOf, Moves, NoOther, Ready, next}
use Rattle.st_commit.proofs.Moving.{moves_self}
use Rattle.st_image.specs.Looks.{pool_area, flex_area}
use Rattle.st_image.specs.Bears.{first_of, paths}
use Rattle.st_image.specs.Frame.{Moved, record_ranges}
use Rattle.st_image.specs.Stands.{state_of}
use Rattle.st_image.specs.Kept.{as_pair}
use Rattle.st_books.specs.declared.books.Books.{Books}
use Rattle.st_books.specs.declared.books.Next.{Next}
use Rattle.st_books.specs.Spelled.{IsNext, same_flex, booked}
use Rattle.st_books.specs.Survived.{Survived, IsEither, unless_gone}
use Rattle.st_books.specs.Ready.{AreReady, AreSafe, rows_of, stood, stood_next}
use Rattle.st_books.proofs.Between.{survived_one, committed_next}
use Rattle.st_books.proofs.Moving.{moves_moved, borne_stays, cells_safe, cells_held}
use Rattle.st_books.proofs.Saying.{says_checkpoint, says_delta}

module _ {D : Type 0} (moment : D → ℕ) (state_at : D → ℕ → State) (b : Books) (n : Next) (old new : D) (ready : AreReady b (state_at old (moment old))) (to : IsNext b n) where
  abbrev start : State
  start = state_at old (moment old)

  abbrev end : State
  end = state_at new (moment new)

  abbrev G : ℕ
  G = b.generation + 1

  abbrev log : Log
  log = chosen flex_area true b.has_committed ready.records.log G n.delta n.body

  abbrev text : List ℕ
  text = pools.record_text n.rec

  committed_where : (x : Bool) → follows flex_area true x ready.records.log ≡ true → x ≡ true
  committed_where x e = (and_parts x (nat_lt (next_of ready.records.log) flex_area.area.slot) e).0

  says : Says log.start log.body log.deltas (same_flex b.flex)
  says = by (follows flex_area true b.has_committed ready.records.log) refl
    where
      by : (t : Bool) → follows flex_area true b.has_committed ready.records.log ≡ t
          → Says (cond t (grown ready.records.log n.delta) (begun (other ready.records.log.slot) (G, n.body))).start (cond t (grown ready.records.log n.delta) (begun (other ready.records.log.slot) (G, n.body))).body
          (cond t (grown ready.records.log n.delta) (begun (other ready.records.log.slot) (G, n.body))).deltas (same_flex b.flex)
      by true e = says_delta b.rec.serial b.generation b.flex ready.records.log n.delta ready.bare (ready.upto (committed_where b.has_committed e)).1 ready.records.ready.base.1.bears.holds.counted ready.records.says to.delta
      by false e = says_checkpoint b.rec.serial b.generation G b.flex n.body (other ready.records.log.slot) ready.bare to.body

  version : (same_flex b.flex).version2 ≡ n.rec.version2
  version = sym to.later.version

  abbrev devs : Devices
  devs = rows_of b.rec

  safe_next : AreSafe n.rec (same_flex b.flex) start
  safe_next = subst (λ (x : List DevRow × List Segment). AreSafe (record n.rec { devs = x.0; segments = x.1 }) b.flex start) (λ i. (sym to.later.devs i, sym to.later.segments i)) ready.places

  module _ (moves : Goes moment state_at (Moves pool_area flex_area G (paths devs)) old new) where
    pub during : b.rec.gone ≡ false → Keeps moment state_at (OneOf pool_area flex_area b.rec.serial (paths devs) (first_of b.rec) (standing_of b.generation (ready.records.h b.generation) (Some ready.records.log)) (standing_of G text (Some log))) old new
        → Keeps moment state_at (NoOther pool_area (paths devs) G text start) old new
        → Keeps moment state_at (Survived b.rec.serial devs (IsEither (stood b (held start)) (unless_gone n.rec (stood_next b n.rec (held start))))) old new
    during alive one others = record {
      later = one.later;
      past = one.past;
      all = λ k from until c leaves.
          survived_one b.rec.serial b.generation b.rec b.flex start ready.records G refl n.rec (same_flex b.flex) log to.is to.later.serial to.later.devs says version
          (state_at new k) (at_moment moment state_at (Moves pool_area flex_area G (paths devs)) old new (moves_self pool_area flex_area G (paths devs) start) moves k from until) (one.all k from until) (others.all k from until) c leaves
          ready.places safe_next alive;
    }

    at_last : Moves pool_area flex_area G (paths devs) start end
    at_last = at_end moment state_at (Moves pool_area flex_area G (paths devs)) old new (moves_self pool_area flex_area G (paths devs) start) moves

    same_rows : rows_of n.rec ≡ devs
    same_rows = ap (λ (ds : List DevRow). map as_pair ds) to.later.devs

    moved : Moved (record_ranges true (paths (rows_of n.rec))) start end
    moved = subst (λ (ds : Devices). Moved (record_ranges true (paths ds)) start end) (sym same_rows) (moves_moved G (paths devs) start end at_last)

    pub borne_before : (k : ℕ) (d : Path × ℕ) → slice_get devs k ≡ Some d → BearsRecord pool_area b.generation (pools.record_text b.rec) (end d.0)
    borne_before k d at = borne_stays b.generation (pools.record_text b.rec) (paths devs) d.0 start end at_last (ready.records.borne k d at)

    pub held_after : state_of G n.rec (same_flex b.flex) (held end) ≡ state_of G n.rec (same_flex b.flex) (held start)
    held_after = cells_held b.rec.serial n.rec (same_flex b.flex) start end moved safe_next G

    pub ready_after : (tail : Tail) → b.generation < 2 ^ 48 → IsTail tail.slot tail.next log
        → Ready pool_area flex_area b.rec.serial (chosen_up flex_area true b.has_committed ready.records.log ready.records.up) (next G text ready.records.h) (paths devs) (first_of b.rec) G (Some log) end
        → ((d : Path) → IsOf (paths devs) d → BearsRecord pool_area G text (end d)) → AreReady (booked b n tail) end
    ready_after tail last is_tail ready_new borne = record {
      records = committed_next b.rec.serial b.generation b.rec b.flex start ready.records G refl n.rec (same_flex b.flex) log to.is to.later.serial to.later.devs says version end at_last
          (chosen_up flex_area true b.has_committed ready.records.log ready.records.up) ready_new borne;
      tail = is_tail;
      upto = λ e. (up_to (follows flex_area true b.has_committed ready.records.log) refl, refl);
      places = cells_safe b.rec.serial n.rec (same_flex b.flex) start end moved safe_next;
      bare = record {
        own = ready.bare.own ∙ sym to.later.serial;
        filesystems = ready.bare.filesystems;
        mappings = ready.bare.mappings;
        cell_from = ready.bare.cell_from;
        cell_until = omega (arith, ready.bare.cell_until);
        serial_from = ready.bare.serial_from;
        serial_until = omega (arith, ready.bare.serial_until);
      };
      first = omega arith;
      last = omega (arith, last);
    }
      where
        up_to : (t : Bool) → follows flex_area true b.has_committed ready.records.log ≡ t → cond t ready.records.up (2 ^ 48) ≡ 2 ^ 48
        up_to true e = (ready.upto (committed_where b.has_committed e)).0
        up_to false e = refl
