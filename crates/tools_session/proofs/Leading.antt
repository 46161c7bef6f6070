-- What a dialogue holds before and after a line, and what the line leads to.
use Rattle.std.proofs.Common.{◌≡◌, ℕ, zero, suc, ◌<◌, List, [], ◌∷◌, ◌++◌, length, take, Option, Some, None, Result, Ok}
use Rattle.std.proofs.Common.{Bool, true, false, refl, sym, ap, ◌∙◌, subst, arith, codes, inl, inr}
use Rattle.std.specs.Prelude.{bytes_eq, if◌then◌else◌}
use Rattle.std.proofs.lemmas.List.{length-take-le, take_all, append_assoc}
use native.Mathlib.Decide.{dec_le}
use Prim.{yes, no}
use Rattle.std.specs.declared.vec.Vec.{Vec}
use Rattle.std.specs.declared.alloc.Global.{Global}
use Rattle.ti_text.specs.Limits.{block_bytes_max}
use Rattle.base_meaning.specs.Edits.{Change, EditStep}
use Rattle.base_meaning.specs.declared.edits.EditError.TheVariants.{Position, TooLong, NotOneBlock, TooMany, Memory}
use Rattle.base_meaning.specs.declared.edits.Outcome.{Outcome}
use Rattle.base_meaning.specs.declared.edits.Outcome.TheVariants.{Accepted, Refused}
use Rattle.tools_session.specs.declared.editor.Editor.{Editor}
use Rattle.tools_session.specs.declared.requests.Opened.{Opened}
use Rattle.tools_session.specs.declared.requests.Opened.TheVariants.{Insert, Replace}
use Rattle.tools_devices.specs.declared.tool_error.ToolError.{ToolError}
use Rattle.tools_session.specs.inside.Editor.{HasState, ActsOn, source_of}
use Rattle.tools_session.specs.Replies.{positions_text}
use Rattle.tools_devices.specs.Counted.{Observed}
use Rattle.tools_devices.specs.Lines.{with_newline}
use Rattle.tools_devices.specs.Writing.{Wrote}
use Rattle.tools_session.specs.inside.Replies.{CarriesOut, WroteReport}
use Rattle.tools_session.specs.inside.Requests.{mode_of, opened_change, opened_mode}
use Rattle.tools_session.specs.Script.{AnswersCommand, Command, EditsSource, LineLeads, Meaning, ScriptMode, Shows, Source, SessionState, meaning_outside, asks}
use Rattle.tools_session.specs.Script.{edits, goes_on, meaning_in, outcome_text, outside, print_reply, prints, rebuilds, reports, source, state}
use Rattle.tools_devices.proofs.Written.{TakesAll-none}

-- ---- a block of which only the front is held

take-take-append : (n : ℕ) (xs ys : List ℕ) → take n (take n xs ++ ys) ≡ take n (xs ++ ys)
take-take-append zero xs ys = refl
take-take-append (suc n) [] ys = refl
take-take-append (suc n) (x ∷ xs) ys = ap (λ (t : List ℕ). x ∷ t) (take-take-append n xs ys)

take-none : (n : ℕ) → take {A = ℕ} n [] ≡ []
take-none zero = refl
take-none (suc n) = refl

-- a text that is longer than a block may be is refused as its front is
EditStep-of_long : (opened : Opened) (texts next : List (List ℕ)) (text front : List ℕ) (outcome : Outcome) → block_bytes_max < length front
    → block_bytes_max < length text → EditStep texts (opened_change opened front) outcome next → EditStep texts (opened_change opened text) outcome next
EditStep-of_long (Insert at) texts next text front Accepted long over step = let short = step.0.short in absurd (omega arith)
EditStep-of_long (Insert at) texts next text front (Refused Position) long over step = step
EditStep-of_long (Insert at) texts next text front (Refused TooLong) long over step = ((step.0.0, λ short. omega arith), step.1)
EditStep-of_long (Insert at) texts next text front (Refused NotOneBlock) long over step = let short = step.0.1 in absurd (omega arith)
EditStep-of_long (Insert at) texts next text front (Refused TooMany) long over step = let short = step.0.1 in absurd (omega arith)
EditStep-of_long (Insert at) texts next text front (Refused Memory) long over step = let short = step.0.short in absurd (omega arith)
EditStep-of_long (Replace at) texts next text front Accepted long over step = let short = step.0.short in absurd (omega arith)
EditStep-of_long (Replace at) texts next text front (Refused Position) long over step = step
EditStep-of_long (Replace at) texts next text front (Refused TooLong) long over step = ((step.0.0, λ short. omega arith), step.1)
EditStep-of_long (Replace at) texts next text front (Refused NotOneBlock) long over step = let short = step.0.1 in absurd (omega arith)
EditStep-of_long (Replace at) texts next text front (Refused TooMany) long over step = let short = step.0.1 in absurd (omega arith)
EditStep-of_long (Replace at) texts next text front (Refused Memory) long over step = let short = step.0.short in absurd (omega arith)

-- what is shown of an edit depends on its outcome, and a text that is too long is never accepted
Shows-of_long : (opened : Opened) (texts next : List (List ℕ)) (text front : List ℕ) (outcome : Outcome) (before now : List ℕ)
    → block_bytes_max < length front → EditStep texts (opened_change opened front) outcome next
    → Shows texts (opened_change opened front) outcome before now → Shows texts (opened_change opened text) outcome before now
Shows-of_long (Insert at) texts next text front Accepted before now long step shows = let short = step.0.short in absurd (omega arith)
Shows-of_long (Replace at) texts next text front Accepted before now long step shows = let short = step.0.short in absurd (omega arith)
Shows-of_long opened texts next text front (Refused error) before now long step shows = shows

pub EditsSource-of_front : (opened : Opened) (source next : Source) (text : List ℕ) (limit : ℕ) (outcome : Outcome) → block_bytes_max < limit
    → EditsSource source (opened_change opened (take limit text)) outcome next → EditsSource source (opened_change opened text) outcome next
EditsSource-of_front opened source next text limit outcome room edited = elim (dec_le (length text) limit) [
  | yes fits ↦ subst (λ (t : List ℕ). EditsSource source (opened_change opened t) outcome next) (take_all limit text fits) edited
  | no over ↦
      let front : length (take limit text) ≡ limit = length-take-le limit text (omega arith) in
      record {
        step = EditStep-of_long opened source.texts next.texts text (take limit text) outcome (omega arith) (omega arith) edited.step;
        shows = Shows-of_long opened source.texts next.texts text (take limit text) outcome source.rebuilt next.rebuilt (omega arith) edited.step edited.shows;
      }
]

-- ---- holding

pub HasState-outside : (d d2 : Editor) (s : SessionState) → s.mode ≡ outside → HasState d s → d2.block ≡ d.block → d2.opened ≡ d.opened
    → HasState d2 (state (source_of d2) outside)
HasState-outside d d2 s is held same_block same_opened = record {
  text = held.text;
  source = refl;
  mode = sym is ∙ held.mode ∙ ap (λ (o : Option Opened). mode_of o held.text) (sym same_opened);
  block = rw same_block held.block;
  room = rw same_block held.room;
}

pub HasState-closed : (d d2 : Editor) (s : SessionState) → HasState d s → d2.block ≡ d.block → d2.opened ≡ None
    → HasState d2 (state (source_of d2) outside)
HasState-closed d d2 s held same_block none = record {
  text = held.text;
  source = refl;
  mode = ap (λ (o : Option Opened). mode_of o held.text) (sym none);
  block = rw same_block held.block;
  room = rw same_block held.room;
}

pub HasState-opened : (d d2 : Editor) (s : SessionState) (opened : Opened) → HasState d s → source_of d2 ≡ source_of d → d2.block.bytes ≡ []
    → d2.block.limit ≡ d.block.limit → d2.opened ≡ Some opened → HasState d2 (state s.source (opened_mode opened []))
HasState-opened d d2 s opened held same_source empty same_limit is = record {
  text = [];
  source = same_source ∙ held.source;
  mode = ap (λ (o : Option Opened). mode_of o []) (sym is);
  block = empty ∙ sym (take-none d2.block.limit);
  room = rw same_limit held.room;
}

pub HasState-added : (d d2 : Editor) (s : SessionState) (opened : Opened) (line : List ℕ) (held : HasState d s) → d2.database ≡ d.database
    → d2.rebuilt ≡ d.rebuilt → d.opened ≡ Some opened → d2.opened ≡ d.opened → d2.block.limit ≡ d.block.limit
    → d2.block.bytes ≡ take d.block.limit (take d.block.limit (d.block.bytes ++ line) ++ 10 ∷ [])
    → HasState d2 (state s.source (opened_mode opened (held.text ++ with_newline line)))
HasState-added d d2 s opened line held same_texts same_rebuilt is same_opened same_limit added =
    let limit = d.block.limit in
    let text = held.text in record {
      text = text ++ with_newline line;
      source = ap (λ (t : List (List ℕ)). source t d2.rebuilt.items) same_texts
          ∙ ap (λ (r : Vec ℕ Global). source d.database r.items) same_rebuilt ∙ held.source;
      mode = ap (λ (o : Option Opened). mode_of o (text ++ with_newline line)) (sym (same_opened ∙ is));
      block = added ∙ ap (λ (t : List ℕ). take limit (take limit (t ++ line) ++ 10 ∷ [])) held.block
          ∙ ap (λ (t : List ℕ). take limit (t ++ 10 ∷ [])) (take-take-append limit text line)
          ∙ take-take-append limit (text ++ line) (10 ∷ []) ∙ ap (λ (t : List ℕ). take limit t) (append_assoc text line (10 ∷ []))
          ∙ ap (λ (n : ℕ). take n (text ++ with_newline line)) (sym same_limit);
      room = rw same_limit held.room;
    }

-- ---- what a line means within a block

meaning_in-opened : (opened : Opened) (text line : List ℕ) → meaning_in (opened_mode opened text) line
    ≡ (if bytes_eq line (codes ".") then asks (edits (opened_change opened text)) else goes_on (opened_mode opened (text ++ with_newline line)))
meaning_in-opened (Insert at) text line = refl
meaning_in-opened (Replace at) text line = refl

pub meaning_in-at_end : (mode : ScriptMode) (now : Option Opened) (opened : Opened) (text line : List ℕ) → mode ≡ mode_of now text → now ≡ Some opened
    → bytes_eq line (codes ".") ≡ true → meaning_in mode line ≡ asks (edits (opened_change opened text))
meaning_in-at_end mode now opened text line is held dot =
    ap (λ (m : ScriptMode). meaning_in m line) (is ∙ ap (λ (o : Option Opened). mode_of o text) held) ∙ meaning_in-opened opened text line
    ∙ ap (λ (b : Bool). if b then asks (edits (opened_change opened text)) else goes_on (opened_mode opened (text ++ with_newline line))) dot

pub meaning_in-in_block : (mode : ScriptMode) (now : Option Opened) (opened : Opened) (text line : List ℕ) → mode ≡ mode_of now text → now ≡ Some opened
    → bytes_eq line (codes ".") ≡ false → meaning_in mode line ≡ goes_on (opened_mode opened (text ++ with_newline line))
meaning_in-in_block mode now opened text line is held other =
    ap (λ (m : ScriptMode). meaning_in m line) (is ∙ ap (λ (o : Option Opened). mode_of o text) held) ∙ meaning_in-opened opened text line
    ∙ ap (λ (b : Bool). if b then asks (edits (opened_change opened text)) else goes_on (opened_mode opened (text ++ with_newline line))) other

pub meaning_in-meaning_outside : (mode : ScriptMode) (line : List ℕ) → mode ≡ outside → meaning_in mode line ≡ meaning_outside line
meaning_in-meaning_outside mode line is = ap (λ (m : ScriptMode). meaning_in m line) is

-- ---- what a line leads to

pub ActsOn-on : (meaning : Meaning) (s : SessionState) (d : Editor) (now : Observed) (mode : ScriptMode) → meaning ≡ goes_on mode
    → HasState d (state s.source mode) → ActsOn meaning s d now now (Ok tt)
ActsOn-on meaning s d now mode is held = record {
  next = state s.source mode;
  reply = [];
  leads = subst (λ (m : Meaning). LineLeads m s (state s.source mode) []) (sym is) (refl, refl);
  holds = held;
  wrote = TakesAll-none now;
}

pub ActsOn-asks : (meaning : Meaning) (s : SessionState) (d : Editor) (before now : Observed) (result : Result Unit ToolError) (command : Command)
    (reply : List ℕ) → meaning ≡ asks command → AnswersCommand s.source command (source_of d) reply → HasState d (state (source_of d) outside)
    → Wrote before now reply result → ActsOn meaning s d before now result
ActsOn-asks meaning s d before now result command reply is answers held wrote = record {
  next = state (source_of d) outside;
  reply = reply;
  leads = subst (λ (m : Meaning). LineLeads m s (state (source_of d) outside) reply) (sym is) (refl, answers);
  holds = held;
  wrote = wrote;
}

pub ActsOn-edits : (meaning : Meaning) (s : SessionState) (d : Editor) (before now : Observed) (result : Result Unit ToolError) (change : Change)
    (source : Source) → meaning ≡ asks (edits change) → source ≡ s.source → CarriesOut source change (source_of d) before now result
    → HasState d (state (source_of d) outside) → ActsOn meaning s d before now result
ActsOn-edits meaning s d before now result change source is same carried held =
    ActsOn-asks meaning s d before now result (edits change) (outcome_text carried.outcome) is
    (carried.outcome, subst (λ (x : Source). EditsSource x change carried.outcome (source_of d)) same carried.edited, refl) held carried.wrote

pub ActsOn-reports : (meaning : Meaning) (s : SessionState) (d : Editor) (before now : Observed) (result : Result Unit ToolError)
    (source : Source) → meaning ≡ asks reports → source ≡ s.source → source_of d ≡ source → WroteReport source.texts before now result
    → HasState d (state (source_of d) outside) → ActsOn meaning s d before now result
ActsOn-reports meaning s d before now result source is same kept (inl wrote) held =
    ActsOn-asks meaning s d before now result reports _ is (kept ∙ same, inl (rw same refl)) held wrote
ActsOn-reports meaning s d before now result source is same kept (inr wrote) held =
    ActsOn-asks meaning s d before now result reports _ is (kept ∙ same, inr refl) held wrote

pub ActsOn-same : (meaning other : Meaning) (s : SessionState) (d : Editor) (before now : Observed) (result : Result Unit ToolError) → meaning ≡ other
    → ActsOn other s d before now result → ActsOn meaning s d before now result
ActsOn-same meaning other s d before now result is led =
    subst (λ (m : Meaning). ActsOn m s d before now result) (sym is) led

pub ActsOn-prints : (meaning : Meaning) (s : SessionState) (d : Editor) (before now : Observed) (result : Result Unit ToolError) (at : ℕ)
    (source : Source) → meaning ≡ asks (prints at) → source ≡ s.source → source_of d ≡ source → Wrote before now (print_reply source.texts at) result
    → HasState d (state (source_of d) outside) → ActsOn meaning s d before now result
ActsOn-prints meaning s d before now result at source is same kept wrote held =
    ActsOn-asks meaning s d before now result (prints at) (print_reply source.texts at) is
    (kept ∙ same, ap (λ (x : Source). print_reply x.texts at) same) held wrote

pub ActsOn-rebuilds : (meaning : Meaning) (s : SessionState) (d : Editor) (before now : Observed) (result : Result Unit ToolError)
    (source : Source) → meaning ≡ asks rebuilds → source ≡ s.source → source_of d ≡ source → Wrote before now (positions_text source.rebuilt) result
    → HasState d (state (source_of d) outside) → ActsOn meaning s d before now result
ActsOn-rebuilds meaning s d before now result source is same kept wrote held =
    ActsOn-asks meaning s d before now result rebuilds (positions_text source.rebuilt) is
    (kept ∙ same, ap (λ (x : Source). positions_text x.rebuilt) same) held wrote

pub CarriesOut-of_front : (opened : Opened) (text : List ℕ) (limit : ℕ) (source : Source) (change : Change) (next : Source)
    (before now : Observed) (result : Result Unit ToolError) → block_bytes_max < limit → change ≡ opened_change opened (take limit text)
    → CarriesOut source change next before now result → CarriesOut source (opened_change opened text) next before now result
CarriesOut-of_front opened text limit source change next before now result room is carried =
    record {
      outcome = carried.outcome;
      edited = EditsSource-of_front opened source next text limit carried.outcome room
          (subst (λ (x : Change). EditsSource source x carried.outcome next) is carried.edited);
      wrote = carried.wrote;
    }
