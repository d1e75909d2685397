use Rattle.st_flexat.proofs.Counting.{rose_on}
use Rattle.st_flexat.proofs.read.read_sectors.Goals as goal

pub returns-in_err-read-clause-same : goal.returns-in_err-read-clause-same
returns-in_err-read-clause-same g c =
    let read = c.read.ensures in
    let dev = c.args.dev.now in
    record {
      devices = read.devs;
      clock = read.clock;
      states = read.states;
      spares = read.spare;
      counted = λ n rose. rose_on n (g.R.Rack.reads c.args.rack.now dev) (g.R.Rack.reads c.read.new.self dev) rose read.counted;
      others = read.others;
    }

pub returns-clause-same : goal.returns-clause-same
returns-clause-same g c =
    let read = c.read.ensures in
    let dev = c.args.dev.now in
    record {
      devices = read.devs;
      clock = read.clock;
      states = read.states;
      spares = read.spare;
      counted = λ n rose. rose_on n (g.R.Rack.reads c.args.rack.now dev) (g.R.Rack.reads c.read.new.self dev) rose read.counted;
      others = read.others;
    }
