-- Running the tokens one after another does what the tree means.
use Rattle.std.proofs.Common.{◌≡◌, ℕ, suc, Bool, true, false, cond, List, [], ◌∷◌, refl, ap, sym, ◌∙◌}
use Rattle.std.specs.Prelude.{Option, Some, None, Ok, Err}
use Rattle.ti_formats.specs.declared.codes.Code.{Code}
use Rattle.ti_formats.specs.declared.codes.Token.TheVariants.{Literal, Operation, If, Then, Else, EndIf}
use Rattle.ti_param.specs.declared.errors.ParamError.{ParamError}
use Rattle.ti_param.specs.declared.errors.ParamError.TheVariants.{BadFormat, StackFull, Memory}
use Rattle.ti_formats.specs.declared.codes.Placed.{Placed}
use Rattle.ti_formats.specs.Formats.{FormatTree, nothing, placed_token, Closes, by_mark, by_end, IsSequence, no_piece, byte_piece, code_piece}
use Rattle.ti_formats.specs.Formats.{conditional_piece, IsConditional, test_alone, test_then, test_then_else, AreTokensOf}
use Rattle.ti_param.specs.inside.Skipping.{level_after, after_part}
use Rattle.ti_param.specs.Meaning.{MachineState, MachineOutcome, and_then, with_output, without_top, top_number, is_zero, code_outcome, meaning}
use Rattle.ti_param.specs.inside.Expansion.{HasOutcome}

-- ---- the tokens in order: with a part to skip, or none

abbrev pub Skip : Type 0
Skip = Option (ℕ × Bool)

unfoldable pub executed : Skip → List Placed → MachineState → MachineOutcome
executed skip [] s = Ok s
executed (Some part) (p ∷ tokens) s =
    elim (level_after part.0 part.1 p.token) [ None ↦ executed None tokens s | Some next ↦ executed (Some (next, part.1)) tokens s ]
executed None (p ∷ tokens) s = elim p.token [
  | Literal b ↦ executed None tokens (with_output (b ∷ []) s)
  | Operation c ↦ and_then (code_outcome p.place c s) (λ t. executed None tokens t)
  | If ↦ executed None tokens s
  | Then ↦ cond (is_zero (top_number s)) (executed (Some (0, true)) tokens (without_top s)) (executed None tokens (without_top s))
  | Else ↦ executed (Some (0, false)) tokens s
  | EndIf ↦ executed None tokens s
]

-- what is skipped is not run
pub executed-after_part : (level : ℕ) (to_else : Bool) (tokens : List Placed) (s : MachineState) →
    executed (Some (level, to_else)) tokens s ≡ executed None (after_part level to_else tokens) s
unfolding executed after_part
executed-after_part level to_else [] s = refl
executed-after_part level to_else (p ∷ tokens) s =
    elim (level_after level to_else p.token) as (λ d. elim d as (λ _. MachineOutcome) [
      | None ↦ executed None tokens s
      | Some next ↦ executed
          (Some (next, to_else)) tokens s
    ]
    ≡ executed None (elim d as (λ _. List Placed) [ None ↦ tokens | Some next ↦ after_part next to_else tokens ]) s) [
      | None ↦ refl
      | Some next ↦ executed-after_part next to_else tokens s
    ]

-- ---- what a sequence and a conditional leave of a part that is skipped

closed_inside : (level : ℕ) (to_else : Bool) (inner after : List Placed) → Closes inner after
    → after_part (suc level) to_else inner ≡ after_part level to_else after
unfolding after_part
closed_inside level to_else inner after (by_mark place) = refl
closed_inside level to_else inner after by_end = refl

closed_here : (to_else : Bool) (inner after : List Placed) → Closes inner after → after_part 0 to_else inner ≡ after
unfolding after_part
closed_here to_else inner after (by_mark place) = refl
closed_here to_else inner after by_end = refl

mutual
  unfolding after_part

  pub sequence_skipped : {depth : ℕ} {tokens left : List Placed} {t : FormatTree} → IsSequence depth tokens left t →
      (level : ℕ) (to_else : Bool) → after_part level to_else tokens ≡ after_part level to_else left
  sequence_skipped no_piece level to_else = refl
  sequence_skipped (byte_piece place b next) level to_else = sequence_skipped next level to_else
  sequence_skipped (code_piece place c next) level to_else = sequence_skipped next level to_else
  sequence_skipped (conditional_piece place few inner closes next) level to_else =
      conditional_skipped inner level to_else ∙ closed_inside level to_else _ _ closes ∙ sequence_skipped next level to_else

  pub conditional_skipped : {depth : ℕ} {tokens left : List Placed} {t : FormatTree} → IsConditional depth tokens left t →
      (level : ℕ) (to_else : Bool) → after_part (suc level) to_else tokens ≡ after_part (suc level) to_else left
  conditional_skipped (test_alone test) level to_else = sequence_skipped test (suc level) to_else
  conditional_skipped (test_then place test taken) level to_else = sequence_skipped test (suc level) to_else ∙ sequence_skipped taken (suc level) to_else
  conditional_skipped (test_then_else place at test taken rest) level to_else =
      sequence_skipped test (suc level) to_else ∙ sequence_skipped taken (suc level) to_else ∙ conditional_skipped rest level to_else

-- what is after an `%e` is passed over whole if no other `%e` may end it
pub rest_skipped : {depth : ℕ} {tokens left : List Placed} {t : FormatTree} → IsConditional depth tokens left t
    → after_part 0 false tokens ≡ after_part 0 false left
unfolding after_part
rest_skipped (test_alone test) = sequence_skipped test 0 false
rest_skipped (test_then place test taken) = sequence_skipped test 0 false ∙ sequence_skipped taken 0 false
rest_skipped (test_then_else place at test taken rest) = sequence_skipped test 0 false ∙ sequence_skipped taken 0 false ∙ rest_skipped rest

-- ---- outcomes one after another

pub and_then-same : (o : MachineOutcome) (f g : MachineState → MachineOutcome) → ((s : MachineState) → f s ≡ g s) → and_then o f ≡ and_then o g
and_then-same (Ok s) f g h = h s
and_then-same (Err place) f g h = refl

and_then-assoc : (o : MachineOutcome) (f g : MachineState → MachineOutcome) → and_then (and_then o f) g ≡ and_then o (λ s. and_then (f s) g)
and_then-assoc (Ok s) f g = refl
and_then-assoc (Err place) f g = refl

executed_closed : (inner after : List Placed) → Closes inner after → (s : MachineState) → executed None inner s ≡ executed None after s
unfolding executed
executed_closed inner after (by_mark place) s = refl
executed_closed inner after by_end s = refl

-- after a `%t`: the part taken, or what is left if it is skipped
chosen_part : (b : Bool) (more : List Placed) (taken rest : FormatTree) (s : MachineState) (left : List Placed) →
    (executed None more s ≡ and_then (meaning taken s) (executed None left)) →
    (executed (Some (0, true)) more s ≡ and_then (meaning rest s) (executed None left)) →
    cond b (executed (Some (0, true)) more s) (executed None more s)
    ≡ and_then (elim b as (λ _. MachineOutcome) [ true ↦ meaning rest s | false ↦ meaning taken s ]) (executed None left)
chosen_part true more taken rest s left run skip = skip
chosen_part false more taken rest s left run skip = run

mutual
  unfolding executed meaning after_part

  pub sequence_runs : {depth : ℕ} {tokens left : List Placed} {t : FormatTree} → IsSequence depth tokens left t →
      (s : MachineState) → executed None tokens s ≡ and_then (meaning t s) (executed None left)
  sequence_runs no_piece s = refl
  sequence_runs (byte_piece place b next) s = sequence_runs next (with_output (b ∷ []) s)
  sequence_runs (code_piece place c {tokens} {left} {next} piece) s =
      and_then-same (code_outcome place c s) (executed None tokens) _ (λ t. sequence_runs piece t)
      ∙ sym (and_then-assoc (code_outcome place c s) (meaning next) (executed None left))
  sequence_runs (conditional_piece place {tokens} {inner} {after} {left} {conditional} {next} few within closes piece) s =
      conditional_runs within after closes s
      ∙ and_then-same (meaning conditional s) (executed None after) _ (λ t. sequence_runs piece t)
      ∙ sym (and_then-assoc (meaning conditional s) (meaning next) (executed None left))

  pub conditional_runs : {depth : ℕ} {tokens inner : List Placed} {t : FormatTree} → IsConditional depth tokens inner t →
      (after : List Placed) → Closes inner after → (s : MachineState) → executed None tokens s ≡ and_then (meaning t s) (executed None after)
  conditional_runs (test_alone {left = inner} {test = t} test) after closes s =
      sequence_runs test s ∙ and_then-same (meaning t s) (executed None inner) (executed None after) (executed_closed inner after closes)
  conditional_runs (test_then place {more} {left = inner} {test} {taken} tested took) after closes s =
      sequence_runs tested s
      ∙ and_then-same (meaning test s) (executed None (placed_token place Then ∷ more)) _ (λ t.
      chosen_part (is_zero (top_number t)) more taken nothing (without_top t) after
      (sequence_runs took (without_top t) ∙ and_then-same (meaning taken (without_top t)) (executed None inner) (executed None after)
      (executed_closed inner after closes))
      (executed-after_part 0 true more (without_top t) ∙ ap (λ l. executed None l (without_top t))
      (sequence_skipped took 0 true ∙ closed_here true inner after closes)))
      ∙ sym (and_then-assoc (meaning test s) _ (executed None after))
  conditional_runs (test_then_else place at {more} {others} {left = inner} {test} {taken} {rest} tested took other) after closes s =
      sequence_runs tested s
      ∙ and_then-same (meaning test s) (executed None (placed_token place Then ∷ more)) _ (λ t.
      chosen_part (is_zero (top_number t)) more taken rest (without_top t) after
      (sequence_runs took (without_top t) ∙ and_then-same (meaning taken (without_top t)) (executed None (placed_token at Else ∷ others)) (executed None after)
      (λ u. executed-after_part 0 false others u ∙ ap (λ l. executed None l u) (rest_skipped other ∙ closed_here false inner after closes)))
      (executed-after_part 0 true more (without_top t) ∙ ap (λ l. executed None l (without_top t)) (sequence_skipped took 0 true)
      ∙ conditional_runs other after closes (without_top t)))
      ∙ sym (and_then-assoc (meaning test s) _ (executed None after))

-- ---- one token more

run-literal : (tokens rest : List Placed) (p : Placed) (b : ℕ) (s : MachineState) → tokens ≡ p ∷ rest → p.token ≡ Literal b →
    executed None tokens s ≡ executed None rest (with_output (b ∷ []) s)
unfolding executed
run-literal tokens rest p b s is token = rw is (rw (token, executed) refl)

run-operation : (tokens rest : List Placed) (p : Placed) (c : Code) (s : MachineState) → tokens ≡ p ∷ rest → p.token ≡ Operation c →
    executed None tokens s ≡ and_then (code_outcome p.place c s) (executed None rest)
unfolding executed
run-operation tokens rest p c s is token = rw is (rw (token, executed) refl)

-- a byte, a code that ends well, a code at which the stack is full
pub literal-done : (tokens rest : List Placed) (p : Placed) (b : ℕ) (s t : MachineState) → tokens ≡ p ∷ rest → p.token ≡ Literal b →
    ◌≡◌ {A = MachineOutcome} (Ok (with_output (b ∷ []) s)) (Ok t) → executed None rest t ≡ executed None tokens s
literal-done tokens rest p b s t is token done =
    let same : with_output (b ∷ []) s ≡ t = cc done in ap (executed None rest) (sym same) ∙ sym (run-literal tokens rest p b s is token)

pub operation-done : (tokens rest : List Placed) (p : Placed) (c : Code) (s t : MachineState) → tokens ≡ p ∷ rest → p.token ≡ Operation c →
    code_outcome p.place c s ≡ Ok t → executed None rest t ≡ executed None tokens s
operation-done tokens rest p c s t is token done =
    sym (run-operation tokens rest p c s is token ∙ ap (λ o. and_then o (executed None rest)) done)

pub operation-full : (tokens rest : List Placed) (p : Placed) (c : Code) (s : MachineState) (place : ℕ) → tokens ≡ p ∷ rest → p.token ≡ Operation c →
    code_outcome p.place c s ≡ Err place → executed None tokens s ≡ Err place
operation-full tokens rest p c s place is token full =
    run-operation tokens rest p c s is token ∙ ap (λ o. and_then o (executed None rest)) full

pub if-done : (tokens rest : List Placed) (p : Placed) (s : MachineState) → tokens ≡ p ∷ rest → p.token ≡ If → executed None rest s ≡ executed None tokens s
unfolding executed
if-done tokens rest p s is token = rw is (rw (token, executed) refl)

pub end-done : (tokens rest : List Placed) (p : Placed) (s : MachineState) → tokens ≡ p ∷ rest → p.token ≡ EndIf → executed None rest s ≡ executed None tokens s
unfolding executed
end-done tokens rest p s is token = rw is (rw (token, executed) refl)

run-then : (tokens rest : List Placed) (p : Placed) (s : MachineState) (b : Bool) → tokens ≡ p ∷ rest → p.token ≡ Then → is_zero (top_number s) ≡ b →
    cond b (executed (Some (0, true)) rest (without_top s)) (executed None rest (without_top s)) ≡ executed None tokens s
unfolding executed
run-then tokens rest p s b is token test = rw is (rw (token, executed) (rw test refl))

pub then-taken : (tokens rest : List Placed) (p : Placed) (s t : MachineState) → tokens ≡ p ∷ rest → p.token ≡ Then → is_zero (top_number s) ≡ false →
    t ≡ without_top s → executed None rest t ≡ executed None tokens s
then-taken tokens rest p s t is token test same = ap (executed None rest) same ∙ run-then tokens rest p s false is token test

pub then-after_part : (tokens rest left : List Placed) (p : Placed) (s t : MachineState) → tokens ≡ p ∷ rest → p.token ≡ Then → is_zero (top_number s) ≡ true →
    t ≡ without_top s → left ≡ after_part 0 true rest → executed None left t ≡ executed None tokens s
then-after_part tokens rest left p s t is token test same gone =
    ap (executed None left) same ∙ ap (λ l. executed None l (without_top s)) gone ∙ sym (executed-after_part 0 true rest (without_top s))
    ∙ run-then tokens rest p s true is token test

pub else-after_part : (tokens rest left : List Placed) (p : Placed) (s : MachineState) → tokens ≡ p ∷ rest → p.token ≡ Else →
    left ≡ after_part 0 false rest → executed None left s ≡ executed None tokens s
unfolding executed
else-after_part tokens rest left p s is token gone =
    ap (λ l. executed None l s) gone ∙ sym (executed-after_part 0 false rest s) ∙ rw is (rw (token, executed) refl)

pub run-end : (tokens : List Placed) (s : MachineState) → tokens ≡ [] → executed None tokens s ≡ Ok s
unfolding executed
run-end tokens s none = rw none refl

-- an error of a step is the error of the whole run, if the step's full stack is the run's
pub error-kept : (e : ParamError) (a b : MachineState) (o whole : MachineOutcome) → ((place : ℕ) → o ≡ Err place → whole ≡ Err place)
    → HasOutcome (Err e) a o → HasOutcome (Err e) b whole
error-kept (BadFormat place) a b o whole full ran = ran
error-kept (StackFull place) a b o whole full ran = full place ran
error-kept Memory a b o whole full ran = tt

-- tokens that have a tree do what the tree means
pub tokens_run : (tokens : List Placed) (t : FormatTree) → AreTokensOf tokens t → (s : MachineState) → executed None tokens s ≡ meaning t s
unfolding executed
tokens_run tokens t parses s = sequence_runs parses s ∙ ended (meaning t s)
  where
    ended : (o : MachineOutcome) → and_then o (executed None []) ≡ o
    ended (Ok final) = refl
    ended (Err place) = refl
