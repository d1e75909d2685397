-- a number of the command line, as std reads it
use Rattle.std.proofs.Common.{◌≡◌, ℕ, List, Bool, true, false, Result, Ok, Err, refl, arith}
use Rattle.std.specs.Str.Parse.{ParsesUnsigned}
use Rattle.std.specs.Result.{result_ok}
use Rattle.clap.specs.ValueTests.{is_unsigned_in}
use Rattle.clap.specs.declared.builder.value_parser.ValueParser.TheVariants as parsers
use Rattle.clap.proofs.ValueTestLemmas.{accepts-Accepts, Accepts-accepts}
use Rattle.st_words.specs.Meaning.{number_in}

by_test : {E : Type 0} (text : List ℕ) (b : Bool) (r : Result ℕ E) → is_unsigned_in 0 18446744073709551615 text ≡ b → ParsesUnsigned 64 10 text r → result_ok r ≡ number_in text
unfolding number_in
by_test text true (Ok n) is h = rw (is, h.1) refl
by_test text true (Err e) is h =
    let passed = accepts-Accepts false (parsers.Unsigned 0 18446744073709551615) text is in
    absurd (h (passed.0, passed.1))
by_test text false (Ok n) is h =
    let passed = Accepts-accepts false (parsers.Unsigned 0 18446744073709551615) text (h.0.0, h.0.1, omega arith, omega (arith, h.0.1)) in
    let bad : true ≡ false = rw (← passed) is in
    absurd cc
by_test text false (Err e) is h = rw is refl

pub number_in-parsed : {E : Type 0} (text : List ℕ) (r : Result ℕ E) → ParsesUnsigned 64 10 text r → result_ok r ≡ number_in text
number_in-parsed text r h = by_test text (is_unsigned_in 0 18446744073709551615 text) r refl h
