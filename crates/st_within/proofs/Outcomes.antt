-- what is told of a result, told anew
use Rattle.std.proofs.Common.{IfOk, OnErr, Result, Ok, Err}

pub if_ok : {X E : Type 0} (r : Result X E) (P Q : X → Type 0) → IfOk r P → ((x : X) → P x → Q x) → IfOk r Q
if_ok (Ok x) P Q h f = f x h
if_ok (Err e) P Q h f = tt

pub on_err_so : {X E : Type 0} (r : Result X E) (P Q : Type 0) → OnErr r P → (P → Q) → OnErr r Q
on_err_so (Ok x) P Q h f = tt
on_err_so (Err e) P Q h f = f h

pub on_err : {X E : Type 0} (r : Result X E) (P : Type 0) → P → OnErr r P
on_err (Ok x) P h = tt
on_err (Err e) P h = h
