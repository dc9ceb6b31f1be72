-- The answer to a file, from that of its header. Assumes nothing.
use Rattle.std.proofs.Common.{◌≡◌, ℕ, true, false, List, is_some, Some, None, Ok, Err, Option, sym, refl, ap, ◌∙◌, arith}
use Rattle.refusal.specs.declared.Refusal.{Refusal}
use Rattle.refusal.proofs.CheckLaws.{ok_then, err_then}
use Rattle.plan.specs.declared.header.Header.{Header}
use Rattle.plan.specs.Plans.{plan_at}
use Rattle.refusal.specs.Checks.{◌then◌, Check, refuse_at}
use Rattle.plan.specs.Checks.{length_check, header_of, header_read, all_checks, decoded}

pub read_ok : (f : List ℕ) (h : Header) → Ok h ≡ header_read f → (length_check f ≡ Ok tt) × (h ≡ header_of f)
read_ok f h e = let p = ok_then (length_check f) (Ok (header_of f)) h e in (p.0, cc p.1)

-- the answer after the length was found good
pub decoded_after : (rule : ℕ) (f : List ℕ) (h : Header) (c : Check) → Ok h ≡ header_read f → c ≡ all_checks rule h f → (c then Ok (plan_at h f)) ≡ decoded rule f
decoded_after rule f h c read is =
    let p = read_ok f h read in
    ap (λ k. k then Ok (plan_at h f)) is
    ∙ ap (λ g. all_checks rule g f then Ok (plan_at g f)) p.1
    ∙ sym (ap (λ k. k then all_checks rule (header_of f) f then Ok (plan_at (header_of f) f)) p.0)

-- a file whose length was refused
pub read_refused : (rule : ℕ) (f : List ℕ) (e : Refusal) → Err e ≡ header_read f → Err e ≡ decoded rule f
read_refused rule f e is = err_then (length_check f) (Ok (header_of f)) (all_checks rule (header_of f) f then Ok (plan_at (header_of f) f)) (header_of f) e refl is

-- what a check at a place that was looked for tells of the place
pub refused_found : (g : ℕ → Refusal) (o : Option ℕ) (e : Refusal) → refuse_at g o ≡ Err e → is_some o ≡ true
refused_found g None e is = let z : ◌≡◌ {A = ℕ} 0 1 = cc in absurd (omega arith)
refused_found g (Some k) e is = refl

pub passed_none : (g : ℕ → Refusal) (o : Option ℕ) → refuse_at g o ≡ Ok tt → is_some o ≡ false
passed_none g None is = refl
passed_none g (Some k) is = let z : ◌≡◌ {A = ℕ} 0 1 = cc in absurd (omega arith)
