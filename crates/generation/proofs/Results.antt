-- What two clauses say of one result.
use Rattle.std.proofs.Common.{Result, Ok, Err}
use Rattle.std.specs.Prelude.{IfOk}

pub if_ok_both : {X E : Type 0} (r : Result X E) (P Q S : X → Type 0) → IfOk r P → IfOk r Q → ((x : X) → P x → Q x → S x) → IfOk r S
if_ok_both (Ok x) P Q S p q f = f x p q
if_ok_both (Err e) P Q S p q f = tt

pub if_ok_each : {X E : Type 0} (r : Result X E) (P Q : X → Type 0) → IfOk r P → ((x : X) → P x → Q x) → IfOk r Q
if_ok_each (Ok x) P Q p f = f x p
if_ok_each (Err e) P Q p f = tt
