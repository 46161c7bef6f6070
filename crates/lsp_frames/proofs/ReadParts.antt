-- Lines and bodies read byte by byte and piece by piece.
use Rattle.std.proofs.Common.{ℕ, ◌≡◌, ◌≢◌, ◌+◌, ◌<◌, ◌≤◌, List, [], ◌∷◌, ◌++◌, length}
use Rattle.std.proofs.Common.{ap, sym, ◌∙◌, append_assoc, subst, arith, inl, inr, length-append}
use Rattle.std.proofs.lemmas.List.Elements.{All-cons, All-head, All-nil, All-push, All-tail}
use Rattle.lsp_frames.proofs.Transferred.{Gives-onto, RunsDry-here, RunsDry-then}
use Rattle.lsp_frames.proofs.Used.{Gives-none, Gives-then}
use Rattle.lsp_frames.specs.Frames.{HasNoNewline, line_end}
use Rattle.lsp_frames.specs.Inputs.{Gives, InputSeen}
use Rattle.lsp_frames.specs.declared.frames.FrameError.{FrameError}
use Rattle.lsp_frames.specs.declared.frames.FrameError.TheVariants.{Memory, Broken}
use Rattle.lsp_frames.specs.Reads.{StopsAtOnce}
use Rattle.lsp_frames.specs.inside.Parts.{BodyStops, HasNoReturn, LineHasNoReturn, LineIsLong, LineRunsDry, LineStops}

-- ---- lines

-- no byte has come
pub line_none : (given : InputSeen) (line : List ℕ) → line ≡ [] → Gives given given line × HasNoNewline line
line_none given line is = (subst (λ (t : List ℕ). Gives given given t) (sym is) (Gives-none given), subst HasNoNewline (sym is) (All-nil (λ byte. byte ≢ 10)))

-- the front of bytes without LF has none
no_newline-front : (a b : List ℕ) → HasNoNewline (a ++ b) → HasNoNewline a
no_newline-front [] b h = All-nil (λ byte. byte ≢ 10)
no_newline-front (x ∷ a) b h =
    All-cons (λ byte. byte ≢ 10) x a (All-head (λ byte. byte ≢ 10) x (a ++ b) h) (no_newline-front a b (All-tail (λ byte. byte ≢ 10) x (a ++ b) h))

-- what is before the CR of a line
pub line_rest : (line rest : List ℕ) → HasNoNewline line → line ≡ rest ++ 13 ∷ [] → HasNoNewline rest
line_rest line rest h is = no_newline-front rest (13 ∷ []) (subst HasNoNewline is h)

module _ (given mid left : InputSeen) (line : List ℕ) (read : Gives given mid line) (one : HasNoNewline line) where
  -- one more byte came, which is no LF
  pub line_more : (byte : ℕ) (whole : List ℕ) → Gives mid left (byte ∷ []) → byte ≢ 10 → whole ≡ line ++ byte ∷ [] → Gives given left whole × HasNoNewline whole
  line_more byte whole came other is = (
    Gives-onto given mid left line (byte ∷ []) whole read came is,
    subst HasNoNewline (sym is) (All-push (λ b. b ≢ 10) line byte one other),
  )

  -- there was no memory for it
  pub line_memory : (room byte : ℕ) → Gives mid left (byte ∷ []) → byte ≢ 10 → LineStops room given left Memory
  line_memory room byte came other =
      (line ++ byte ∷ [], Gives-then given mid left line (byte ∷ []) read came, All-push (λ b. b ≢ 10) line byte one other)

  -- the reader gave no more
  pub line_dry : (room : ℕ) (fault : FrameError) → StopsAtOnce mid left fault → LineStops room given left fault
  line_dry room fault why =
      let dry : LineRunsDry given left = record { taken = line; dry = RunsDry-here given mid left line read why.1; open_line = one } in
      subst (λ (f : FrameError). LineStops room given left f) (sym why.0) (inl dry)

  -- LF came
  with_end : (byte : ℕ) → Gives mid left (byte ∷ []) → byte ≡ 10 → Gives given left (line ++ 10 ∷ [])
  with_end byte came is = subst (λ (b : ℕ). Gives given left (line ++ b ∷ [])) is (Gives-then given mid left line (byte ∷ []) read came)

  pub line_ended : (byte : ℕ) (rest : List ℕ) → Gives mid left (byte ∷ []) → byte ≡ 10 → line ≡ rest ++ 13 ∷ [] → Gives given left (rest ++ line_end)
  line_ended byte rest came newline is =
      subst (λ (t : List ℕ). Gives given left t) (ap (λ (l : List ℕ). l ++ 10 ∷ []) is ∙ append_assoc rest (13 ∷ []) (10 ∷ [])) (with_end byte came newline)

  pub line_no_return : (room byte : ℕ) (fault : FrameError) → Gives mid left (byte ∷ []) → byte ≡ 10 → (fault ≡ Broken) × HasNoReturn line
      → LineStops room given left fault
  line_no_return room byte fault came newline why =
      let bad : LineHasNoReturn given left = record { line = line; gives = with_end byte came newline; one = one; no_return = why.1 } in
      subst (λ (f : FrameError). LineStops room given left f) (sym why.0) (inr (inr bad))

-- there is no room for one more byte
pub line_long : (given left : InputSeen) (room : ℕ) (line : List ℕ) → Gives given left line → HasNoNewline line → room ≤ length line
    → LineStops room given left Broken
line_long given left room line read one long =
    let found : LineIsLong room given left = record { taken = line; gives = read; open_line = one; long = long } in
    inr (inl found)

-- ---- bodies

-- no byte has come
pub body_none : (given : InputSeen) (body : List ℕ) (len : ℕ) → body ≡ [] → Gives given given body × (length body ≤ len)
body_none given body len is = (subst (λ (t : List ℕ). Gives given given t) (sym is) (Gives-none given), omega (arith, ap length is))

module _ (given mid left : InputSeen) (body : List ℕ) (len : ℕ) (read : Gives given mid body) where
  -- a piece was not read
  pub body_stops : (room : ℕ) (fault : FrameError) → BodyStops room mid left fault → length body + room ≤ len → BodyStops len given left fault
  body_stops room Memory why low = (body ++ why.0, Gives-then given mid left body why.0 read why.1, omega (arith, length-append body why.0, why.2))
  body_stops room Broken why low = (body ++ why.0, RunsDry-then given mid left body why.0 read why.1, omega (arith, length-append body why.0, why.2))

  -- the reader gave no more
  pub body_dry : (fault : FrameError) → StopsAtOnce mid left fault → length body < len → BodyStops len given left fault
  body_dry fault why low =
      subst (λ (f : FrameError). BodyStops len given left f) (sym why.0) (body, RunsDry-here given mid left body read why.1, low)
