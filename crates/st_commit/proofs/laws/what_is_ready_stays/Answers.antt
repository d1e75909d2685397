use Rattle.st_commit.proofs.Staying.{ready_stays, records_stay}
use Rattle.st_commit.proofs.laws.what_is_ready_stays.Goals as goal

pub returns-clause-ready : goal.returns-clause-ready
returns-clause-ready x = λ pool flex p up g h devs first old a s head sound alone ready. ready_stays pool flex p up h devs first g sound (record { index = 0; is = head }) a s alone old ready

pub returns-clause-borne : goal.returns-clause-borne
returns-clause-borne x = λ pool flex g rec devs first a s head sound alone all. records_stay pool flex 0 0 (λ k. rec) devs first g sound (record { index = 0; is = head }) a s alone rec all
