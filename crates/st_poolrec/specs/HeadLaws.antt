-- The head of a pool record has its width, and is read back from its spelling.
use Rattle.std.proofs.Common.{◌≡◌, ℕ, ◌/◌, ◌%◌, ◌<◌, ◌≤◌, ◌^◌, Bool, true, false, eqb, List, ◌++◌, length, take, min, refl, ap, ◌∙◌, arith}
use Rattle.st_poolrec.specs.declared.head.PoolHead.{PoolHead}
use Rattle.st_fields.specs.Fields.{number_at, spelling}
use Rattle.st_fields.proofs.Spellings.{number-spelling}
use Rattle.st_recrows.specs.Texts.{filled, text_in}
use Rattle.st_recrows.specs.TextLaws.{name_short, length-filled, text_back_last}
use Rattle.st_poolrec.specs.Head.{flags, head_text, HeadFits, head_fields}

pub positive_88 : 0 < 88
positive_88 = omega arith

pub head_width : (h : PoolHead) → HeadFits h → length (head_text h) ≡ 88
head_width h fit = let size = length-filled h.name (name_short h.name fit.name) in omega (arith, size)

gone_back : (a b c : Bool) → eqb (flags a b c % 2) 1 ≡ a
gone_back true true true = refl
gone_back true true false = refl
gone_back true false true = refl
gone_back true false false = refl
gone_back false true true = refl
gone_back false true false = refl
gone_back false false true = refl
gone_back false false false = refl

overprovisioning_back : (a b c : Bool) → eqb (flags a b c / 2 % 2) 1 ≡ b
overprovisioning_back true true true = refl
overprovisioning_back true true false = refl
overprovisioning_back true false true = refl
overprovisioning_back true false false = refl
overprovisioning_back false true true = refl
overprovisioning_back false true false = refl
overprovisioning_back false false true = refl
overprovisioning_back false false false = refl

version2_back : (a b c : Bool) → eqb (flags a b c / 4 % 2) 1 ≡ c
version2_back true true true = refl
version2_back true true false = refl
version2_back true false true = refl
version2_back true false false = refl
version2_back false true true = refl
version2_back false true false = refl
version2_back false false true = refl
version2_back false false false = refl

flags_small : (a b c : Bool) → flags a b c < 256 ^ 4
flags_small true true true = omega arith
flags_small true true false = omega arith
flags_small true false true = omega arith
flags_small true false false = omega arith
flags_small false true true = omega arith
flags_small false true false = omega arith
flags_small false false true = omega arith
flags_small false false false = omega arith

pub head_reads_back : (h : PoolHead) → HeadFits h → head_fields (head_text h) ≡ h
head_reads_back h fit =
    let short : length h.name ≤ 64 = name_short h.name fit.name in
    let after_segments : List ℕ = spelling 2 0 ++ filled h.name in
    let after_devs : List ℕ = spelling 2 h.segments ++ after_segments in
    let after_length : List ℕ = spelling 2 h.devs ++ after_devs in
    let after_limit : List ℕ = spelling 2 (length h.name) ++ after_length in
    let after_flags : List ℕ = spelling 4 h.fs_limit ++ after_limit in
    let after_serial : List ℕ = spelling 4 (flags h.gone h.overprovisioning h.version2) ++ after_flags in
    let serial : number_at 8 0 (head_text h) ≡ h.serial = number-spelling 8 h.serial after_serial (omega (arith, fit.serial)) in
    let bits : number_at 4 8 (head_text h) ≡ flags h.gone h.overprovisioning h.version2 = number-spelling 4 (flags h.gone h.overprovisioning h.version2) after_flags (flags_small h.gone h.overprovisioning h.version2) in
    let gone = ap (λ (n : ℕ). eqb (n % 2) 1) bits ∙ gone_back h.gone h.overprovisioning h.version2 in
    let overprovisioning = ap (λ (n : ℕ). eqb (n / 2 % 2) 1) bits ∙ overprovisioning_back h.gone h.overprovisioning h.version2 in
    let version2 = ap (λ (n : ℕ). eqb (n / 4 % 2) 1) bits ∙ version2_back h.gone h.overprovisioning h.version2 in
    let fs_limit : number_at 4 12 (head_text h) ≡ h.fs_limit = number-spelling 4 h.fs_limit after_limit (omega (arith, fit.fs_limit)) in
    let count : number_at 2 16 (head_text h) ≡ length h.name = number-spelling 2 (length h.name) after_length (omega arith) in
    let name : text_in (number_at 2 16 (head_text h)) 24 (head_text h) ≡ h.name = ap (λ (n : ℕ). take (min n 64) (filled h.name)) count ∙ text_back_last h.name short in
    let devs : number_at 2 18 (head_text h) ≡ h.devs = number-spelling 2 h.devs after_devs (omega (arith, fit.devs)) in
    let segments : number_at 2 20 (head_text h) ≡ h.segments = number-spelling 2 h.segments after_segments (omega (arith, fit.segments)) in
    λ i. record { serial = serial i; gone = gone i; overprovisioning = overprovisioning i; version2 = version2 i; fs_limit = fs_limit i; name = name i; devs = devs i; segments = segments i }
