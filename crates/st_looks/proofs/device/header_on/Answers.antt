use Rattle.std.proofs.Common.{◌≡◌, ℕ, ◌∙◌, ap}
use Rattle.std.proofs.lemmas.List.{length-replicate}
use Rattle.st_rack.specs.Device.{cells}
use Rattle.st_header.specs.Header.{header_of}
use Rattle.st_looks.proofs.device.header_on.Goals as goal

pub returns-clause-found : goal.returns-clause-found
returns-clause-found g c =
    let f = (g.R.Rack.state_at c.args.rack.now (g.R.Rack.moment c.args.rack.now) c.args.dev.now).holds in
    c.read_header.ensures.value ∙ ap (header_of c.args.sectors) (c.in_ok-read.ensures.bytes ∙ ap (λ (n : ℕ). cells f 0 n) (length-replicate {A = ℕ} 8192 0))
