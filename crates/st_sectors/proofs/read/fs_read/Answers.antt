use Rattle.std.proofs.Common.{rules, ◌≡◌, ℕ, List, Some, None, Option, slice_get, option_map, ap, ◌∙◌}
use Rattle.std.specs.List.{flat_map, range_with_len}
use Rattle.st_model.specs.declared.reply.Given.TheVariants.{Read}
use Rattle.st_model.specs.declared.reply.Reply.{Reply}
use Rattle.st_model.specs.declared.state.CacheState.{CacheState}
use Rattle.st_model.specs.Answer.{accepted, first_answer}
use Rattle.st_model.specs.Checks.{fs_at}
use Rattle.st_model.specs.Content.{sector_bytes, touched}
use Rattle.st_model.specs.steps.FsRead.{cells_read, read_answers, with_reads}
use Rattle.st_sectors.proofs.Reading.{answered, read_so, unknown}
use Rattle.st_sectors.proofs.read.fs_read.Goals as goal

pub returns-in_default-clause-ok : goal.returns-in_default-clause-ok
returns-in_default-clause-ok c =
    ap (λ (r : Reply). (r, c.args.pool.now)) c.refused.ensures ∙ unknown c.args.name.now c.args.sector c.args.sectors c.args.pool.now (search rules)

pub returns-in-Some-2-clause-ok : goal.returns-in-Some-2-clause-ok
returns-in-Some-2-clause-ok c =
    let fss = c.args.pool.now.filesystems in
    let fs = c.at-fs.result.now in
    let at : fs_at c.args.name.now fss ≡ slice_get fss c.in-Some.place = search rules in
    let said : first_answer (read_answers fs c.args.sector c.args.sectors) ≡ Some c.in-Some-2.reply = search rules in
    answered c.args.name.now c.args.sector c.args.sectors c.args.pool.now c.in-Some.place fs at c.at-fs.ensures c.in-Some-2.reply said

pub returns-clause-ok : goal.returns-clause-ok
returns-clause-ok c =
    let p = c.args.pool.now in
    let fss = p.filesystems in
    let fs = c.at-fs.result.now in
    let sector = c.args.sector in
    let n = c.args.sectors in
    let at : fs_at c.args.name.now fss ≡ slice_get fss c.in-Some.place = search rules in
    let none : first_answer (read_answers fs sector n) ≡ None = search rules in
    let bytes : c.in_ok-bytes.bytes ≡ flat_map (sector_bytes p fs) (range_with_len sector n) = search rules in
    let cells : c.items-2.result.now ≡ cells_read fs (touched sector n) = search rules in
    let done : c.in_ok-cache.cache ≡ option_map (with_reads c.items-2.result.now) p.cache = search rules in
    let cache : c.in_ok-cache.cache ≡ option_map (with_reads (cells_read fs (touched sector n))) p.cache = done ∙ ap (λ (l : List ℕ). option_map (with_reads l) p.cache) cells in
    ap (λ (r : Reply). (r, record p { cache = c.in_ok-cache.cache })) c.accepted.ensures
    ∙ ap (λ (b : List ℕ). (accepted (Read b), record p { cache = c.in_ok-cache.cache })) bytes
    ∙ ap (λ (o : Option CacheState). (accepted (Read (flat_map (sector_bytes p fs) (range_with_len sector n))), record p { cache = o })) cache
    ∙ read_so c.args.name.now sector n p c.in-Some.place fs at c.at-fs.ensures none
