-- Frames that are answered one after another, and how that ends.
use Rattle.std.proofs.Common.{ℕ, ◌≡◌, ◌+◌, ◌-◌, ◌<◌, ◌≤◌, List, [], ◌∷◌, ◌++◌, length, map, Option, None, Some, Result, Ok, Err}
use Rattle.std.proofs.Common.{refl, sym, ap, ◌∙◌, subst, arith, append_assoc, append-nil, inl, inr, length-append}
use Rattle.std.proofs.lemmas.Grind.{flat_map-append}
use Rattle.std.specs.Prelude.{IfErr, OnOk}
use Rattle.serde_json.specs.Data.{Data}
use Rattle.serde_json.specs.Written.{compact_text}
use Rattle.tools_devices.proofs.Written.{Appends-then, TakesAll-none, TakesAll-then}
use Rattle.tools_devices.specs.Counted.{Observed}
use Rattle.tools_devices.specs.Writing.{TakesAll}
use Rattle.lsp_frames.proofs.Transferred.{GivesNoMore-then}
use Rattle.lsp_frames.proofs.Used.{Gives-none, Gives-then, Uses-then}
use Rattle.lsp_frames.specs.Frames.{Waits, framed}
use Rattle.lsp_frames.specs.Inputs.{Gives, InputSeen, Takes}
use Rattle.lsp_frames.specs.Transfers.{GivesFrame, NoFrameComes, ReadingStops, WritingEnds}
use Rattle.lsp_frames.specs.declared.frames.Frame.{Frame}
use Rattle.lsp_frames.specs.declared.frames.Frame.TheVariants.{Body, TooLong}
use Rattle.lsp_frames.specs.declared.frames.FrameError.{FrameError}
use Rattle.lsp_frames.specs.declared.frames.FrameError.TheVariants.{Memory, Broken}
use Rattle.lsp_server.specs.Answers.{answer_data}
use Rattle.lsp_server.specs.Sayings.{Sayings}
use Rattle.lsp_server.specs.Serving.{AreFrames, AreTurns, Exchange, Exchanges, GoesOn, IsFrame, ServingEnds, Turn}
use Rattle.lsp_server.specs.Serving.{answers_text, frames_max, frames_text, replies_to, reply_text, served_state}
use Rattle.lsp_server.specs.States.{status_of}
use Rattle.lsp_server.specs.Steps.{Answer, Places, State, replied}
use Rattle.lsp_server.specs.inside.Turns.{Answered, IsValue, TurnStops}

-- ---- a frame that was read

frame_of_body : (given left : InputSeen) (frame : Frame) (value : Option Data) → GivesFrame given left frame → IsValue frame value
    → (bytes : List ℕ) × IsFrame bytes value × Gives given left bytes
frame_of_body given left (Body body) None h is = (
  h.0.header ++ body.items,
  record { header = h.0.header; body = body.items; whole = refl; announces = h.0.announces; value_is = λ short. sym is },
  h.0.read,
)
frame_of_body given left (Body body) (Some value) h is = (
  h.0.header ++ body.items,
  record { header = h.0.header; body = body.items; whole = refl; announces = h.0.announces; value_is = (h.1, sym is) },
  h.0.read,
)
frame_of_body given left TooLong None h is = (
  h.1.header ++ h.0,
  record { header = h.1.header; body = h.0; whole = refl; announces = h.1.announces; value_is = λ short. absurd (omega (arith, h.2)) },
  h.1.read,
)
frame_of_body given left TooLong (Some value) h is = absurd is

-- memory ran out after a frame
pub memory_after : (given left : InputSeen) (frame : Frame) → GivesFrame given left frame → ReadingStops given left Memory
memory_after given left (Body body) h = (
  h.0.header ++ body.items,
  h.0.read,
  inr (record { header = h.0.header; body = body.items; whole = refl; announces = h.0.announces }),
)
memory_after given left TooLong h = (
  h.1.header ++ h.0,
  h.1.read,
  inr (record { header = h.1.header; body = h.0; whole = refl; announces = h.1.announces }),
)

-- ---- one turn

module _ (places : Places) (says : Sayings) (given left : InputSeen) (before : Observed) (start : State) where
  -- no frame was read
  pub turn_unread : (fault : FrameError) → ReadingStops given left fault → TurnStops places says given left before before start fault
  turn_unread Memory h = (h, refl)
  turn_unread Broken h = inl (h, refl)

  module _ (now : Observed) (end : State) (frame : Frame) (turn : Turn) (reads : GivesFrame given left frame) (is : IsValue frame turn.value)
      (waits : Waits left.ahead turn.waits) (same : end ≡ (replied places start turn.value turn.waits).0) where
    -- a frame was read, and the answers to it written
    pub turn_answered : (result : Result Unit FrameError) → WritingEnds before now (reply_text places says start turn) result
        → OnOk result (Answered places says given left before now start end)
    turn_answered (Ok x) written =
        let f = frame_of_body given left frame turn.value reads is in
        record { turn = turn; bytes = f.0; frame = f.1; read = f.2; waits = waits; written = written; end_is = same }
    turn_answered (Err fault) written = tt

    -- they could not be written to the end
    pub turn_cut : (result : Result Unit FrameError) → WritingEnds before now (reply_text places says start turn) result
        → IfErr result (TurnStops places says given left before now start)
    turn_cut (Ok x) written = tt
    turn_cut (Err Memory) written = (memory_after given left frame reads, written)
    turn_cut (Err Broken) written =
        let f = frame_of_body given left frame turn.value reads is in
        inr (record { turn = turn; bytes = f.0; frame = f.1; read = f.2; waits = waits; written = written })

-- ---- one more frame

AreFrames-push : (bytes frame : List ℕ) (turns : List Turn) (turn : Turn) → AreFrames bytes turns → IsFrame frame turn.value
    → AreFrames (bytes ++ frame) (turns ++ turn ∷ [])
AreFrames-push bytes frame [] turn all one =
    (frame, [], ap (λ (t : List ℕ). t ++ frame) all ∙ sym (append-nil frame), one, refl)
AreFrames-push bytes frame (first ∷ turns) turn all one = (
  all.0,
  all.1 ++ frame,
  ap (λ (t : List ℕ). t ++ frame) all.2 ∙ append_assoc all.0 all.1 frame,
  all.3,
  AreFrames-push all.1 frame turns turn all.4 one,
)

AreTurns-push : (ahead mid left : List ℕ) (came more : List (List ℕ)) (turns : List Turn) (turn : Turn) (frame : List ℕ) → AreTurns ahead came turns mid
    → IsFrame frame turn.value → Takes mid more frame left → Waits left turn.waits → AreTurns ahead (came ++ more) (turns ++ turn ∷ []) left
AreTurns-push ahead mid left came more [] turn frame all one takes waits = (
  frame,
  more,
  left,
  [],
  ap (λ (p : List (List ℕ)). p ++ more) all.0 ∙ sym (append-nil more),
  one,
  subst (λ (a : List ℕ). Takes a more frame left) all.1 takes,
  waits,
  (refl, refl),
)
AreTurns-push ahead mid left came more (first ∷ turns) turn frame all one takes waits = (
  all.0,
  all.1,
  all.2,
  all.3 ++ more,
  ap (λ (p : List (List ℕ)). p ++ more) all.4 ∙ append_assoc all.1 all.3 more,
  all.5,
  all.6,
  all.7,
  AreTurns-push all.2 mid left all.3 more turns turn frame all.8 one takes waits,
)

served_state-push : (places : Places) (start : State) (turns : List Turn) (turn : Turn)
    → served_state places start (turns ++ turn ∷ []) ≡ (replied places (served_state places start turns) turn.value turn.waits).0
served_state-push places start [] turn = refl
served_state-push places start (first ∷ turns) turn = served_state-push places ((replied places start first.value first.waits).0) turns turn

GoesOn-push : (places : Places) (start : State) (turns : List Turn) (turn : Turn) → GoesOn places start turns
    → status_of (served_state places start turns) ≡ None → GoesOn places start (turns ++ turn ∷ [])
GoesOn-push places start [] turn all one = (one, tt)
GoesOn-push places start (first ∷ turns) turn all one =
    (all.0, GoesOn-push places ((replied places start first.value first.waits).0) turns turn all.1 one)

replies_to-push : (places : Places) (start : State) (turns : List Turn) (turn : Turn)
    → replies_to places start (turns ++ turn ∷ [])
    ≡ replies_to places start turns ++ (replied places (served_state places start turns) turn.value turn.waits).1
replies_to-push places start [] turn = append-nil ((replied places start turn.value turn.waits).1)
replies_to-push places start (first ∷ turns) turn =
    let answers = (replied places start first.value first.waits).1 in
    let next = (replied places start first.value first.waits).0 in
    ap (λ (t : List Answer). answers ++ t) (replies_to-push places next turns turn)
    ∙ sym (append_assoc answers (replies_to places next turns) _)

answers_text-frames : (says : Sayings) (answers : List Answer) → answers_text says answers ≡ frames_text (map (answer_data says) answers)
answers_text-frames says [] = refl
answers_text-frames says (answer ∷ answers) =
    ap (λ (t : List ℕ). framed (compact_text (answer_data says answer)) ++ t) (answers_text-frames says answers)

answers_text-push : (places : Places) (says : Sayings) (start : State) (turns : List Turn) (turn : Turn)
    → answers_text says (replies_to places start (turns ++ turn ∷ []))
    ≡ answers_text says (replies_to places start turns) ++ reply_text places says (served_state places start turns) turn
answers_text-push places says start turns turn =
    let text : Answer → List ℕ = λ answer. framed (compact_text (answer_data says answer)) in
    let answers = (replied places (served_state places start turns) turn.value turn.waits).1 in
    ap (answers_text says) (replies_to-push places start turns turn)
    ∙ flat_map-append text (replies_to places start turns) answers
    ∙ ap (λ (t : List ℕ). answers_text says (replies_to places start turns) ++ t) (answers_text-frames says answers)

length-push : (turns : List Turn) (turn : Turn) → length (turns ++ turn ∷ []) ≡ length turns + 1
length-push turns turn = length-append turns (turn ∷ [])

-- ---- runs

-- frames were read and answered, and this number may come yet
pub record Progress (places : Places) (says : Sayings) (start state : State) (given left : InputSeen) (before now : Observed) (frames_left : ℕ) : Type 0 where
  pub input : List ℕ
  pub output : List ℕ
  pub exchange : Exchange places says start state input output
  pub came : List (List ℕ)
  pub pieces : left.pieces ≡ given.pieces ++ came
  pub each : AreTurns given.ahead came exchange.turns left.ahead
  pub read : Gives given left input
  pub written : TakesAll before now output
  pub count : length exchange.turns + frames_left ≡ frames_max

pub Progress-none : (places : Places) (says : Sayings) (start : State) (given : InputSeen) (before : Observed)
    → Progress places says start start given given before before frames_max
Progress-none places says start given before = record {
  input = [];
  output = [];
  exchange = record { turns = []; frames = refl; going = tt; end_is = refl; answers = refl };
  came = [];
  pieces = sym (append-nil given.pieces);
  each = (refl, refl);
  read = Gives-none given;
  written = TakesAll-none before;
  count = refl;
}

module _ (places : Places) (says : Sayings) (start state : State) (given left : InputSeen) (before now : Observed) (frames_left : ℕ)
    (p : Progress places says start state given left before now frames_left) where
  -- the exchange as it is after more was read
  abbrev exchanged : (later : InputSeen) (more : List (List ℕ)) → later.pieces ≡ left.pieces ++ more
      → Exchanges places says given later start state p.input p.output
  exchanged later more is = record {
    exchange = p.exchange;
    came = p.came;
    later = more;
    ahead = left.ahead;
    pieces = is ∙ (ap (λ (q : List (List ℕ)). q ++ more) p.pieces ∙ append_assoc given.pieces p.came more);
    each = p.each;
  }

  abbrev exchanged_here : Exchanges places says given left start state p.input p.output
  exchanged_here = exchanged left [] (sym (append-nil left.pieces))

  -- a frame ended the server
  pub ServingEnds-ended : (status : ℕ) → status_of state ≡ Some status → ServingEnds places says given left before now start state (Ok status)
  ServingEnds-ended status ended =
      record { input = p.input; output = p.output; exchange = exchanged_here; ended = ended; read = p.read; written = p.written }

  -- no more frames may come
  pub ServingEnds-most : frames_left ≤ 0 → ServingEnds places says given left before now start state (Err Broken)
  ServingEnds-most none =
      inr (inr (record {
        input = p.input;
        output = p.output;
        exchange = exchanged_here;
        most = omega (arith, p.count);
        read = p.read;
        written = p.written;
      }))

  module _ (going : status_of state ≡ None) where
    abbrev turns : List Turn
    turns = p.exchange.turns

    reached : served_state places start turns ≡ state
    reached = sym p.exchange.end_is

    module _ (next : State) (later : InputSeen) (written_later : Observed) (one : Answered places says left later now written_later state next) where
      abbrev exchange-more : Exchange places says start next (p.input ++ one.bytes) (p.output ++ reply_text places says state one.turn)
      exchange-more = record {
        turns = turns ++ one.turn ∷ [];
        frames = AreFrames-push p.input one.bytes turns one.turn p.exchange.frames one.frame;
        going = GoesOn-push places start turns one.turn p.exchange.going (ap status_of reached ∙ going);
        end_is = one.end_is
            ∙ sym (served_state-push places start turns one.turn
            ∙ ap (λ (s : State). (replied places s one.turn.value one.turn.waits).0) reached);
        answers = ap (λ (t : List ℕ). t ++ reply_text places says state one.turn) p.exchange.answers
            ∙ sym (answers_text-push places says start turns one.turn
            ∙ ap (λ (s : State). answers_text says (replies_to places start turns) ++ reply_text places says s one.turn) reached);
      }

      -- one more frame was answered
      pub Progress-more : 0 < frames_left → Progress places says start next given later before written_later (frames_left - 1)
      Progress-more some =
          let pushed : length (turns ++ one.turn ∷ []) + (frames_left - 1) ≡ frames_max = omega (arith, length-push turns one.turn, p.count) in
          let uses = one.read.uses in
          record {
            input = p.input ++ one.bytes;
            output = p.output ++ reply_text places says state one.turn;
            exchange = exchange-more;
            came = p.came ++ uses.came;
            pieces = uses.pieces ∙ (ap (λ (q : List (List ℕ)). q ++ uses.came) p.pieces ∙ append_assoc given.pieces p.came uses.came);
            each = AreTurns-push given.ahead left.ahead later.ahead p.came uses.came turns one.turn one.bytes p.each one.frame uses.takes one.waits;
            read = Gives-then given left later p.input one.bytes p.read one.read;
            written = TakesAll-then before now written_later p.output (reply_text places says state one.turn) p.written one.written;
            count = pushed;
          }

    cause : (later : InputSeen) (taken : List ℕ) → NoFrameComes left later taken → NoFrameComes given later taken
    cause later taken (inl none) = inl (none.0, GivesNoMore-then given left later p.input p.read none.1)
    cause later taken (inr none) = inr (none.0, none.1 ∙ p.read.failures)

    -- a frame was not read or not answered
    pub ServingEnds-stopped : (later : InputSeen) (written_later : Observed) (end : State) (fault : FrameError)
        → TurnStops places says left later now written_later state fault
        → ServingEnds places says given later before written_later start end (Err fault)
    ServingEnds-stopped later written_later end Memory (h, same) = record {
      input = p.input;
      taken = h.0;
      output = p.output;
      end = state;
      exchange = exchanged later h.1.uses.came h.1.uses.pieces;
      going = going;
      one = h.2;
      read = Gives-then given left later p.input h.0 p.read h.1;
      written = subst (λ (w : Observed). TakesAll before w p.output) (sym same) p.written;
    }
    ServingEnds-stopped later written_later end Broken (inl (h, same)) = inl (record {
      input = p.input;
      taken = h.0;
      output = p.output;
      end = state;
      exchange = exchanged later h.1.came h.1.pieces;
      going = going;
      read = Uses-then given left later p.input h.0 p.read.uses h.1;
      written = subst (λ (w : Observed). TakesAll before w p.output) (sym same) p.written;
      cause = cause later h.0 h.2;
    })
    ServingEnds-stopped later written_later end Broken (inr cut) = inr (inl (record {
      input = p.input;
      frame = cut.bytes;
      turn = cut.turn;
      output = p.output;
      front = cut.written.front;
      back = cut.written.back;
      end = state;
      exchange = exchanged later cut.read.uses.came cut.read.uses.pieces;
      going = going;
      is_frame = cut.frame;
      waits = cut.waits;
      reply = cut.written.whole;
      read = Gives-then given left later p.input cut.bytes p.read cut.read;
      written = Appends-then before.bytes now.bytes written_later.bytes p.output cut.written.front p.written.bytes cut.written.bytes;
      failures = cut.written.failures ∙ ap (λ (n : ℕ). n + 1) p.written.failures;
    }))
