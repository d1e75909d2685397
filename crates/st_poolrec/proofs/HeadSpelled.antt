-- A head that is put together front to back is the spelling of its value.
use Rattle.std.proofs.Common.{◌≡◌, ℕ, List, ◌++◌, length, take, ap, ◌∙◌}
use Rattle.st_fields.specs.Fields.{spelling}
use Rattle.st_recrows.specs.Texts.{filled}
use Rattle.st_recrows.proofs.RowsLemmas.{all_of_it}
use Rattle.st_poolrec.specs.declared.head.PoolHead.{PoolHead}
use Rattle.st_poolrec.specs.Head.{flags, head_text}

pub head_spelled : (h : PoolHead) (w1 w2 w3 w4 w5 w6 w7 w8 name : List ℕ) (bits : ℕ) → name ≡ h.name → bits ≡ flags h.gone h.overprovisioning h.version2 → length w8 ≡ 88
    → take 8 w1 ≡ spelling 8 h.serial → take 12 w2 ≡ take 8 w1 ++ spelling 4 bits → take 16 w3 ≡ take 12 w2 ++ spelling 4 h.fs_limit → take 18 w4 ≡ take 16 w3 ++ spelling 2 (length name)
    → take 20 w5 ≡ take 18 w4 ++ spelling 2 h.devs → take 22 w6 ≡ take 20 w5 ++ spelling 2 h.segments → take 24 w7 ≡ take 22 w6 ++ spelling 2 0 → take 88 w8 ≡ take 24 w7 ++ filled name → w8 ≡ head_text h
head_spelled h w1 w2 w3 w4 w5 w6 w7 w8 name bits is_name is_bits size p1 p2 p3 p4 p5 p6 p7 p8 =
    let t2 : List ℕ = spelling 8 h.serial ++ spelling 4 bits in
    let t3 : List ℕ = t2 ++ spelling 4 h.fs_limit in
    let t4 : List ℕ = t3 ++ spelling 2 (length name) in
    let t5 : List ℕ = t4 ++ spelling 2 h.devs in
    let t6 : List ℕ = t5 ++ spelling 2 h.segments in
    let t7 : List ℕ = t6 ++ spelling 2 0 in
    let f2 : take 12 w2 ≡ t2 = p2 ∙ ap (λ (l : List ℕ). l ++ spelling 4 bits) p1 in
    let f3 : take 16 w3 ≡ t3 = p3 ∙ ap (λ (l : List ℕ). l ++ spelling 4 h.fs_limit) f2 in
    let f4 : take 18 w4 ≡ t4 = p4 ∙ ap (λ (l : List ℕ). l ++ spelling 2 (length name)) f3 in
    let f5 : take 20 w5 ≡ t5 = p5 ∙ ap (λ (l : List ℕ). l ++ spelling 2 h.devs) f4 in
    let f6 : take 22 w6 ≡ t6 = p6 ∙ ap (λ (l : List ℕ). l ++ spelling 2 h.segments) f5 in
    let f7 : take 24 w7 ≡ t7 = p7 ∙ ap (λ (l : List ℕ). l ++ spelling 2 0) f6 in
    let f8 : take 88 w8 ≡ t7 ++ filled name = p8 ∙ ap (λ (l : List ℕ). l ++ filled name) f7 in
    all_of_it 88 w8 (t7 ++ filled name) size f8
    ∙ (λ i. spelling 8 h.serial ++ (spelling 4 (is_bits i) ++ (spelling 4 h.fs_limit ++ (spelling 2 (length (is_name i)) ++ (spelling 2 h.devs ++ (spelling 2 h.segments ++ (spelling 2 0 ++ filled (is_name i))))))))
