use Rattle.std.proofs.Common.{◌≡◌, ℕ, List, [], ◌++◌, sym, append-nil}
use Rattle.st_lines.specs.Printing.{Printing}
use Rattle.st_lines.proofs.Printed.{on_err, printing_as, printing_start, printing_cut_end, printing_end}
use Rattle.st_gen.specs.Script.{script}
use Rattle.st_check.proofs.generate.write_script.Goals as goal

pub returns-in_err-print_script-clause-prefix : goal.returns-in_err-print_script-clause-prefix
returns-in_err-print_script-clause-prefix g c =
    let held = g.K.Sink.held c.args.sink.now in
    let all : List ℕ = script c.args.lanes c.args.number in
    let begun : Printing held held c.in_ok-outlet.outlet all all = rw c.in_ok-outlet.ensures (printing_start held all) in
    on_err _ _ (c.in_err-print_script.ensures.stops held [] all (printing_as held _ _ _ _ all (sym (append-nil all)) begun))

pub returns-in_err-flush-clause-prefix : goal.returns-in_err-flush-clause-prefix
returns-in_err-flush-clause-prefix g c =
    let held = g.K.Sink.held c.args.sink.now in
    let all : List ℕ = script c.args.lanes c.args.number in
    let begun : Printing held held c.in_ok-outlet.outlet all all = rw c.in_ok-outlet.ensures (printing_start held all) in
    let printed = c.in_ok-print_script.ensures.prints held [] all (printing_as held _ _ _ _ all (sym (append-nil all)) begun) in
    on_err _ _ (printing_cut_end held _ _ _ all c.in_err-flush.ensures.err.0 printed c.in_err-flush.ensures.err.1)

pub returns-clause-written : goal.returns-clause-written
returns-clause-written g c =
    let held = g.K.Sink.held c.args.sink.now in
    let all : List ℕ = script c.args.lanes c.args.number in
    let begun : Printing held held c.in_ok-outlet.outlet all all = rw c.in_ok-outlet.ensures (printing_start held all) in
    let printed = c.in_ok-print_script.ensures.prints held [] all (printing_as held _ _ _ _ all (sym (append-nil all)) begun) in
    printing_end held _ _ _ all printed c.in_ok-flush.ensures.ok.0
