-- The lines of a script, and the answers to them, are determined except for out of memory.
use Rattle.std.proofs.Common.{◌≡◌, ◌⊎◌, ℕ, List, [], ◌∷◌, ◌++◌, refl, sym, ap, ◌∙◌, subst, append_assoc, inl, inr}
use Rattle.base_meaning.specs.Edits.{Change, EditStep}
use Rattle.base_meaning.specs.declared.edits.EditError.TheVariants.{Position, TooLong, NotOneBlock, TooMany, Memory}
use Rattle.base_meaning.specs.declared.edits.Outcome.{Outcome}
use Rattle.base_meaning.specs.declared.edits.Outcome.TheVariants.{Accepted, Refused}
use Rattle.tools_session.specs.ScriptLaws.{OneAnswer, OneOutput, DifferAtMemory, SaysMemory}
use Rattle.tools_devices.proofs.CutLines.{one_split-law}
use Rattle.tools_devices.specs.Lines.{with_last}
use Rattle.tools_session.specs.Script.{AnswersCommand, ScriptMode, Runs, Shows, Source, SessionState, asks, closing_reply, edits, goes_on, meaning_in}
use Rattle.tools_session.specs.Script.{outcome_text, outside, prints, rebuilds, refused_text, reports, source, session_start, state, nothing_known}
use Rattle.base_meaning.proofs.ExchangeLaws.{one_rebuilt}

-- ---- answers

EditStep-one : (texts next later : List (List ℕ)) (change : Change) (outcome other : Outcome) → EditStep texts change outcome next
    → EditStep texts change other later
    → (outcome ≡ Refused Memory) ⊎ (other ≡ Refused Memory) ⊎ ((outcome ≡ other) × (next ≡ later))
EditStep-one texts next later change (Refused Memory) other x y = inl refl
EditStep-one texts next later change Accepted (Refused Memory) x y = inr (inl refl)
EditStep-one texts next later change Accepted Accepted x y = inr (inr (refl, x.1 ∙ sym y.1))
EditStep-one texts next later change Accepted (Refused Position) x y = absurd (y.0 x.0.in_place)
EditStep-one texts next later change Accepted (Refused TooLong) x y = absurd (y.0.1 x.0.short)
EditStep-one texts next later change Accepted (Refused NotOneBlock) x y = absurd (y.0.2 x.0.block)
EditStep-one texts next later change Accepted (Refused TooMany) x y = absurd (y.0.3 x.0.room)
EditStep-one texts next later change (Refused Position) (Refused Memory) x y = inr (inl refl)
EditStep-one texts next later change (Refused Position) Accepted x y = absurd (x.0 y.0.in_place)
EditStep-one texts next later change (Refused Position) (Refused Position) x y = inr (inr (refl, x.1 ∙ sym y.1))
EditStep-one texts next later change (Refused Position) (Refused TooLong) x y = absurd (x.0 y.0.0)
EditStep-one texts next later change (Refused Position) (Refused NotOneBlock) x y = absurd (x.0 y.0.0)
EditStep-one texts next later change (Refused Position) (Refused TooMany) x y = absurd (x.0 y.0.0)
EditStep-one texts next later change (Refused TooLong) (Refused Memory) x y = inr (inl refl)
EditStep-one texts next later change (Refused TooLong) Accepted x y = absurd (x.0.1 y.0.short)
EditStep-one texts next later change (Refused TooLong) (Refused Position) x y = absurd (y.0 x.0.0)
EditStep-one texts next later change (Refused TooLong) (Refused TooLong) x y = inr (inr (refl, x.1 ∙ sym y.1))
EditStep-one texts next later change (Refused TooLong) (Refused NotOneBlock) x y = absurd (x.0.1 y.0.1)
EditStep-one texts next later change (Refused TooLong) (Refused TooMany) x y = absurd (x.0.1 y.0.1)
EditStep-one texts next later change (Refused NotOneBlock) (Refused Memory) x y = inr (inl refl)
EditStep-one texts next later change (Refused NotOneBlock) Accepted x y = absurd (x.0.2 y.0.block)
EditStep-one texts next later change (Refused NotOneBlock) (Refused Position) x y = absurd (y.0 x.0.0)
EditStep-one texts next later change (Refused NotOneBlock) (Refused TooLong) x y = absurd (y.0.1 x.0.1)
EditStep-one texts next later change (Refused NotOneBlock) (Refused NotOneBlock) x y = inr (inr (refl, x.1 ∙ sym y.1))
EditStep-one texts next later change (Refused NotOneBlock) (Refused TooMany) x y = absurd (x.0.2 y.0.2)
EditStep-one texts next later change (Refused TooMany) (Refused Memory) x y = inr (inl refl)
EditStep-one texts next later change (Refused TooMany) Accepted x y = absurd (x.0.3 y.0.room)
EditStep-one texts next later change (Refused TooMany) (Refused Position) x y = absurd (y.0 x.0.0)
EditStep-one texts next later change (Refused TooMany) (Refused TooLong) x y = absurd (y.0.1 x.0.1)
EditStep-one texts next later change (Refused TooMany) (Refused NotOneBlock) x y = absurd (y.0.2 x.0.2)
EditStep-one texts next later change (Refused TooMany) (Refused TooMany) x y = inr (inr (refl, x.1 ∙ sym y.1))

Source-same : (a b : Source) → a.texts ≡ b.texts → a.rebuilt ≡ b.rebuilt → a ≡ b
Source-same a b texts rebuilt = ap (λ (t : List (List ℕ)). source t a.rebuilt) texts ∙ ap (λ (r : List ℕ). source b.texts r) rebuilt

State-same : (a b : SessionState) → a.source ≡ b.source → a.mode ≡ b.mode → a ≡ b
State-same a b same mode = ap (λ (x : Source). state x a.mode) same ∙ ap (λ (m : ScriptMode). state b.source m) mode

Leads-same : (after other : SessionState) → after.mode ≡ outside → other.mode ≡ outside → after.source ≡ other.source → after ≡ other
Leads-same after other a b same = State-same after other same (a ∙ sym b)

Shows-one : (texts : List (List ℕ)) (change : Change) (outcome : Outcome) (before now other : List ℕ) → Shows texts change outcome before now
    → Shows texts change outcome before other → now ≡ other
Shows-one texts change Accepted before now other x y = (one_rebuilt texts change now other x.0 y.0 x.1 y.1).0
Shows-one texts change (Refused error) before now other x y = x ∙ sym y

edits-one : (source : Source) (after other : SessionState) (reply answer : List ℕ) (change : Change) → after.mode ≡ outside → other.mode ≡ outside
    → AnswersCommand source (edits change) after.source reply → AnswersCommand source (edits change) other.source answer
    → (reply ≡ refused_text Memory) ⊎ (answer ≡ refused_text Memory) ⊎ ((after ≡ other) × (reply ≡ answer))
edits-one source after other reply answer change a b x y =
    elim (EditStep-one source.texts after.source.texts other.source.texts change x.0 y.0 x.1.step y.1.step) [
      | inl memory ↦ inl (x.2 ∙ ap outcome_text memory)
      | inr (inl memory) ↦ inr (inl (y.2 ∙ ap outcome_text memory))
      | inr (inr same) ↦
          let shows : Shows source.texts change y.0 source.rebuilt after.source.rebuilt = subst
          (λ (o : Outcome). Shows source.texts change o source.rebuilt after.source.rebuilt) same.0 x.1.shows in
          let rebuilt : after.source.rebuilt ≡ other.source.rebuilt = Shows-one source.texts change y.0 source.rebuilt after.source.rebuilt
          other.source.rebuilt shows y.1.shows in
          inr (inr (Leads-same after other a b (Source-same after.source other.source same.1 rebuilt), x.2 ∙ ap outcome_text same.0 ∙ sym y.2))
    ]

reports-one : (source : Source) (after other : SessionState) (reply answer : List ℕ) → after.mode ≡ outside → other.mode ≡ outside
    → AnswersCommand source reports after.source reply → AnswersCommand source reports other.source answer
    → (reply ≡ refused_text Memory) ⊎ (answer ≡ refused_text Memory) ⊎ ((after ≡ other) × (reply ≡ answer))
reports-one source after other reply answer a b x y =
    elim x.1 [
      | inr memory ↦ inl memory
      | inl first ↦ elim y.1 [
        | inr memory ↦ inr (inl memory)
        | inl second ↦ inr (inr (Leads-same after other a b (x.0 ∙ sym y.0), first ∙ sym second))
      ]
    ]

pub one_answer-law : OneAnswer
one_answer-law (goes_on mode) before after other reply answer x y = inr (inr (x.0 ∙ sym y.0, x.1 ∙ sym y.1))
one_answer-law (asks (edits change)) before after other reply answer x y = edits-one before.source after other reply answer change x.0 y.0 x.1 y.1
one_answer-law (asks (prints at)) before after other reply answer x y =
    inr (inr (Leads-same after other x.0 y.0 (x.1.0 ∙ sym y.1.0), x.1.1 ∙ sym y.1.1))
one_answer-law (asks reports) before after other reply answer x y = reports-one before.source after other reply answer x.0 y.0 x.1 y.1
one_answer-law (asks rebuilds) before after other reply answer x y =
    inr (inr (Leads-same after other x.0 y.0 (x.1.0 ∙ sym y.1.0), x.1.1 ∙ sym y.1.1))
one_answer-law (asks nothing_known) before after other reply answer x y =
    inr (inr (Leads-same after other x.0 y.0 (x.1.0 ∙ sym y.1.0), x.1.1 ∙ sym y.1.1))

-- ---- outputs

DifferAtMemory-behind : (output other reply : List ℕ) → DifferAtMemory output other → DifferAtMemory (reply ++ output) (reply ++ other)
DifferAtMemory-behind output other reply part = record {
  front = reply ++ part.front;
  rest = part.rest;
  other_rest = part.other_rest;
  is = ap (λ (x : List ℕ). reply ++ x) part.is ∙ sym (append_assoc reply part.front part.rest);
  other_is = ap (λ (x : List ℕ). reply ++ x) part.other_is ∙ sym (append_assoc reply part.front part.other_rest);
  wants = part.wants;
}

SaysMemory-more : (output more : List ℕ) → SaysMemory output → SaysMemory (output ++ more)
SaysMemory-more output more wants =
    (wants.0 ++ more, ap (λ (x : List ℕ). x ++ more) wants.1 ∙ append_assoc (refused_text Memory) wants.0 more)

wants-more : (later after more most : List ℕ) → SaysMemory later ⊎ SaysMemory after
    → SaysMemory (later ++ more) ⊎ SaysMemory (after ++ most)
wants-more later after more most (inl wants) = inl (SaysMemory-more later more wants)
wants-more later after more most (inr wants) = inr (SaysMemory-more after most wants)

DifferAtMemory-before : (output other more most : List ℕ) → DifferAtMemory output other → DifferAtMemory (output ++ more) (other ++ most)
DifferAtMemory-before output other more most part = record {
  front = part.front;
  rest = part.rest ++ more;
  other_rest = part.other_rest ++ most;
  is = ap (λ (x : List ℕ). x ++ more) part.is ∙ append_assoc part.front part.rest more;
  other_is = ap (λ (x : List ℕ). x ++ most) part.other_is ∙ append_assoc part.front part.other_rest most;
  wants = wants-more part.rest part.other_rest more most part.wants;
}

DifferAtMemory-here : (output other : List ℕ) → SaysMemory output ⊎ SaysMemory other → DifferAtMemory output other
DifferAtMemory-here output other wants = record { front = []; rest = output; other_rest = other; is = refl; other_is = refl; wants = wants }

Runs-one : (lines : List (List ℕ)) (before after last : SessionState) (output other : List ℕ) → Runs lines before after output
    → Runs lines before last other → ((after ≡ last) × (output ≡ other)) ⊎ DifferAtMemory output other
Runs-one [] before after last output other x y = inl (x.0 ∙ sym y.0, x.1 ∙ sym y.1)
Runs-one (line ∷ lines) before after last output other x y =
    elim (one_answer-law (meaning_in before.mode line) before x.0 y.0 x.1 y.1 x.3 y.3) [
      | inl memory ↦ inr (DifferAtMemory-here output other (inl (x.2, x.5 ∙ ap (λ (r : List ℕ). r ++ x.2) memory)))
      | inr (inl memory) ↦ inr (DifferAtMemory-here output other (inr (y.2, y.5 ∙ ap (λ (r : List ℕ). r ++ y.2) memory)))
      | inr (inr same) ↦ elim (Runs-one lines x.0 after last x.2 y.2 x.4 (subst (λ (s : SessionState). Runs lines s last y.2) (sym same.0) y.4)) [
        | inl equal ↦ inl (
          equal.0,
          x.5 ∙ ap (λ (r : List ℕ). r ++ x.2) same.1 ∙ ap (λ (r : List ℕ). y.1 ++ r) equal.1 ∙ sym y.5,
        )
        | inr part ↦
            let behind : DifferAtMemory (x.1 ++ x.2) (x.1 ++ y.2) = DifferAtMemory-behind x.2 y.2 x.1 part in
            let other_is : other ≡ x.1 ++ y.2 = y.5 ∙ ap (λ (r : List ℕ). r ++ y.2) (sym same.1) in
            inr (subst (λ (o : List ℕ). DifferAtMemory output o) (sym other_is)
            (subst (λ (o : List ℕ). DifferAtMemory o (x.1 ++ y.2)) (sym x.5) behind))
      ]
    ]

pub one_output-law : OneOutput
one_output-law input output other a b =
    let x = a.complete in
    let y = b.complete in
    let same = one_split-law input x.lines y.lines x.rest y.rest x.split y.split in
    let lines : with_last x.lines x.rest ≡ with_last y.lines y.rest =
    ap (λ (ls : List (List ℕ)). with_last ls x.rest) same.0 ∙ ap (λ (r : List ℕ). with_last y.lines r) same.1 in
    elim (Runs-one (with_last x.lines x.rest) session_start a.end b.end a.replies b.replies x.ran
    (subst (λ (ls : List (List ℕ)). Runs ls session_start b.end b.replies) (sym lines) y.ran)) [
      | inl equal ↦ inl (a.whole ∙ ap (λ (r : List ℕ). r ++ closing_reply a.end.mode) equal.1
          ∙ ap (λ (s : SessionState). b.replies ++ closing_reply s.mode) equal.0 ∙ sym b.whole)
      | inr part ↦ inr (subst (λ (o : List ℕ). DifferAtMemory output o) (sym b.whole)
          (subst (λ (o : List ℕ). DifferAtMemory o (b.replies ++ closing_reply b.end.mode)) (sym a.whole)
          (DifferAtMemory-before a.replies b.replies (closing_reply a.end.mode) (closing_reply b.end.mode) part)))
    ]
