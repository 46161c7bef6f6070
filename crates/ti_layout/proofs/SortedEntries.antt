-- What the entries of a table say of a capability, and what an edit of them changes.
use Rattle.std.proofs.Common.{◌≡◌, ◌≢◌, ℕ, zero, suc, ◌+◌, ◌<◌, Bool, true, false, cond, if◌then◌else◌, All, subst, List, [], ◌∷◌, length, get_or, set}
use Rattle.std.proofs.Common.{Option, Some, None, refl, sym, ◌∙◌, ap, arith, Result, Ok, Err}
use Rattle.std.specs.Result.{IsErr}
use Rattle.std.specs.List.{insert, remove}
use Rattle.ti_caps.specs.Tables.{Capability, IsCapability, capability, count_of, same_capability, rank_in}
use Rattle.ti_caps.proofs.Same.{same_capability-true, same_capability-itself}
use Rattle.ti_caps.specs.declared.capability.Kind.{Kind}
use Rattle.ti_caps.specs.declared.capability.Kind.TheVariants.{Flag, Number, Text}
use Rattle.ti_layout.specs.Values.{Content, Mention, Agrees, AgreesIfSome, contents, rank_of}

-- ---- whether two capabilities are equal

pub same_from_one : (c d : Capability) → c ≡ d → same_capability c d ≡ true
same_from_one c d e = ap (same_capability c) (sym e) ∙ same_capability-itself c

pub other_from_test : (c d : Capability) → same_capability c d ≡ false → c ≢ d
other_from_test c d e same = let t = same_from_one c d same in cc

pub test_from_other : (c d : Capability) → c ≢ d → same_capability c d ≡ false
test_from_other c d other = elim (same_capability c d) as (λ b. same_capability c d ≡ b → b
    ≡ false) [ true ↦ λ e. absurd (other (same_capability-true c d e)) | false ↦ λ e. refl ] refl

-- capabilities with the same place among all are equal
one_in_rank : (k l : Kind) (i j : ℕ) → i < count_of k → j < count_of l → rank_in k + i ≡ rank_in l + j → capability k i ≡ capability l j
one_in_rank Flag Flag i j m n e = ap (capability Flag) (omega arith)
one_in_rank Number Number i j m n e = ap (capability Number) (omega arith)
one_in_rank Text Text i j m n e = ap (capability Text) (omega arith)
one_in_rank Flag Number i j m n e = absurd (omega arith)
one_in_rank Flag Text i j m n e = absurd (omega arith)
one_in_rank Number Flag i j m n e = absurd (omega arith)
one_in_rank Number Text i j m n e = absurd (omega arith)
one_in_rank Text Flag i j m n e = absurd (omega arith)
one_in_rank Text Number i j m n e = absurd (omega arith)

pub one_from_rank : (c d : Capability) → IsCapability c → IsCapability d → rank_of c ≡ rank_of d → c ≡ d
one_from_rank c d m n e = one_in_rank c.kind d.kind c.index d.index m n e

-- ---- what the entries say

-- the capability is only at place i
abbrev pub Elsewhere : List Mention → Capability → ℕ → Type 0
Elsewhere es c i = (j : ℕ) (e : Mention) → j ≢ i → j < length es → (get_or es j e).0 ≢ c

-- no entry is of the capability
abbrev pub Nowhere : List Mention → Capability → Type 0
Nowhere es c = (j : ℕ) (e : Mention) → j < length es → (get_or es j e).0 ≢ c

later : (x : Mention) (es : List Mention) (c : Capability) (i : ℕ) → Elsewhere (x ∷ es) c (suc i) → Elsewhere es c i
later x es c i other j e apart within = other (suc j) e (λ s. apart (omega arith)) (omega arith)

none_later : (x : Mention) (es : List Mention) (c : Capability) → Elsewhere (x ∷ es) c 0 → Nowhere es c
none_later x es c other j e within = other (suc j) e (λ s. omega arith) (omega arith)

nowhere_later : (x : Mention) (es : List Mention) (c : Capability) → Nowhere (x ∷ es) c → Nowhere es c
nowhere_later x es c other j e within = other (suc j) e (omega arith)

pub contents_nowhere : (es : List Mention) (c : Capability) → Nowhere es c → contents es c ≡ None
unfolding contents
contents_nowhere [] c other = refl
contents_nowhere (x ∷ es) c other = rw (test_from_other x.0 c (other 0 x (omega arith))) (contents_nowhere es c (nowhere_later x es c other))

pub contents_here : (es : List Mention) (c : Capability) (i : ℕ) (d : Mention) → i < length es → (get_or es i d).0 ≡ c → Elsewhere es c i
    → contents es c ≡ Some (get_or es i d).1
unfolding contents
contents_here [] c i d within here other = absurd (omega arith)
contents_here (x ∷ es) c zero d within here other = rw (same_from_one x.0 c here)
contents_here (x ∷ es) c (suc i) d within here other =
    rw (test_from_other x.0 c (other 0 x (λ s. omega arith) (omega arith))) (contents_here es c i d (omega arith) here (later x es c i other))

-- the new entries say this of the capability, and of every other one what the old ones say
abbrev pub Says : List Mention → List Mention → Capability → Option Content → Type 0
Says old new c o = (d : Capability) → contents new d ≡ (if same_capability c d then o else contents old d)

-- of two tests that do not both pass, either may come first
exchanged : {X : Type 0} (a b : Bool) (p q r : X) → (a ≡ true → b ≡ true → ⊥) → (if b then q else (if a then p else r))
    ≡ (if a then p else (if b then q else r))
exchanged true true p q r apart = absurd (apart refl refl)
exchanged true false p q r apart = refl
exchanged false true p q r apart = refl
exchanged false false p q r apart = refl

apart_from : (x c d : Capability) → x ≢ c → same_capability c d ≡ true → same_capability x d ≡ true → ⊥
apart_from x c d other e f = other (same_capability-true x d f ∙ sym (same_capability-true c d e))

twice : {X : Type 0} (a : Bool) (p q r : X) → (if a then p else (if a then q else r)) ≡ (if a then p else r)
twice true p q r = refl
twice false p q r = refl

pub says-set : (es : List Mention) (c : Capability) (v : Content) (i : ℕ) (e : Mention) → i < length es → (get_or es i e).0 ≡ c → Elsewhere es c i
    → Says es (set es i (c, v)) c (Some v)
unfolding contents
says-set [] c v i e within here other d = absurd (omega arith)
says-set (x ∷ es) c v zero e within here other d = rw here (sym (twice (same_capability c d) (Some v) (Some x.1) (contents es d)))
says-set (x ∷ es) c v (suc i) e within here other d =
    rw (says-set es c v i e (omega arith) here (later x es c i other) d)
    (exchanged (same_capability c d) (same_capability x.0 d) (Some v) (Some x.1) (contents es d)
    (apart_from x.0 c d (other 0 x (λ s. omega arith) (omega arith))))

pub says-insert : (es : List Mention) (c : Capability) (v : Content) (i : ℕ) → Nowhere es c → Says es (insert es i (c, v)) c (Some v)
unfolding contents
says-insert es c v zero other d = refl
says-insert [] c v (suc i) other d = refl
says-insert (x ∷ es) c v (suc i) other d =
    rw (says-insert es c v i (nowhere_later x es c other) d)
    (exchanged (same_capability c d) (same_capability x.0 d) (Some v) (Some x.1) (contents es d) (apart_from x.0 c d (other 0 x (omega arith))))

first_gone : (es : List Mention) (c d : Capability) (b : Bool) → same_capability c d ≡ b → Nowhere es c → contents es d ≡ (if b then None else contents es d)
first_gone es c d true e other = ap (contents es) (sym (same_capability-true c d e)) ∙ contents_nowhere es c other
first_gone es c d false e other = refl

pub says-remove : (es : List Mention) (c : Capability) (i : ℕ) (e : Mention) → i < length es → (get_or es i e).0 ≡ c → Elsewhere es c i
    → Says es (remove es i) c None
unfolding contents
says-remove [] c i e within here other d = absurd (omega arith)
says-remove (x ∷ es) c zero e within here other d =
    rw here (first_gone es c d (same_capability c d) refl (none_later x es c other) ∙ sym (twice (same_capability c d) None (Some x.1) (contents es d)))
says-remove (x ∷ es) c (suc i) e within here other d =
    rw (says-remove es c i e (omega arith) here (later x es c i other) d)
    (exchanged (same_capability c d) (same_capability x.0 d) None (Some x.1) (contents es d) (apart_from x.0 c d (other 0 x (λ s. omega arith) (omega arith))))

-- ---- what is held may be had

module _ (c : Capability) where
  agree_one : (x : Mention) (o : Option Content) → Agrees x.0 x.1 → AgreesIfSome c o → AgreesIfSome c (if same_capability x.0 c then Some x.1 else o)
  agree_one x o agrees rest =
      elim (same_capability x.0 c) as (λ b. same_capability x.0 c ≡ b → AgreesIfSome c (cond b (Some x.1) o)) [
        | true ↦ λ e. subst (λ d. Agrees d x.1) (same_capability-true x.0 c e) agrees
        | false ↦ λ e. rest
      ] refl

  pub agree_all : (es : List Mention) → All (λ e. IsCapability e.0 × Agrees e.0 e.1) es → AgreesIfSome c (contents es c)
  unfolding contents
  agree_all [] all = tt
  agree_all (x ∷ es) all = agree_one x (contents es c) (all 0 x (omega arith)).1 (agree_all es (λ i d lt. all (suc i) d (omega arith)))

-- ---- out of memory is passed on

pub err_is : {T E : Type 0} (r : Result T E) → IsErr r → (e : E) × (r ≡ Err e)
err_is (Ok x) is = absurd cc
err_is (Err e) is = (e, refl)
