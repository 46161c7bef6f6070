-- The lines of a header read one after another, and the body.
use Rattle.std.proofs.Common.{ℕ, zero, suc, ◌≡◌, ◌≢◌, ◌+◌, ◌-◌, ◌<◌, ◌≤◌, ◌⊎◌, List, [], ◌∷◌, ◌++◌, All, Option, None, Some, length, drop}
use Rattle.std.proofs.Common.{refl, ap, sym, ◌∙◌, append_assoc, append-nil, subst, arith, inl, inr, length-append}
use Rattle.std.proofs.lemmas.List.Elements.{All-append, All-cons, All-nil}
use Rattle.lsp_frames.proofs.NoFrame.{bad_line, header_without_length, long_header, open_body, open_header, open_lines}
use Rattle.lsp_frames.proofs.Transferred.{RunsDry-then}
use Rattle.lsp_frames.proofs.Used.{Gives-none, Gives-then}
use Rattle.lsp_frames.specs.Frames.{BeginsNoFrame, HasNoNewline, IsHeader, IsHeaderLine, IsLengthLine, IsOneFrameAtMost}
use Rattle.lsp_frames.specs.Frames.{header_bytes_max, line_end, lines_text, number_of}
use Rattle.lsp_frames.specs.Inputs.{Gives, InputSeen}
use Rattle.lsp_frames.specs.Transfers.{GivesBody, ReadingStops}
use Rattle.lsp_frames.specs.declared.frames.FrameError.{FrameError}
use Rattle.lsp_frames.specs.declared.frames.FrameError.TheVariants.{Memory, Broken}
use Rattle.lsp_frames.specs.inside.Headers.{FirstLength, HeaderSoFar, IsNoNumber}
use Rattle.lsp_frames.specs.inside.Parts.{BodyStops, LineHasNoReturn, LineIsLong, LineRunsDry, LineStops}

-- the text with one more line
pub lines_text-more : (lines : List (List ℕ)) (line : List ℕ) → lines_text (lines ++ line ∷ []) ≡ lines_text lines ++ (line ++ line_end)
lines_text-more [] line = append-nil (line ++ line_end)
lines_text-more (first ∷ lines) line =
    ap (λ text. (first ++ line_end) ++ text) (lines_text-more lines line) ∙ sym (append_assoc (first ++ line_end) (lines_text lines) (line ++ line_end))

All-one : (P : List ℕ → Type 0) (line : List ℕ) → P line → All P (line ∷ [])
All-one P line here = All-cons P line [] here (All-nil P)

-- no line gave a length, and this one does
pub FirstLength-found : (lines : List (List ℕ)) (line value : List ℕ) → FirstLength lines None → IsLengthLine line → value ≡ drop 15 line
    → FirstLength (lines ++ line ∷ []) (Some value)
FirstLength-found lines line value before here value_is =
    record { front = lines; line = line; back = []; whole = refl; before = before; here = here; value_is = value_is }

-- this line does not give a length either
pub FirstLength-none : (lines : List (List ℕ)) (line : List ℕ) → FirstLength lines None → ¬ IsLengthLine line → FirstLength (lines ++ line ∷ []) None
FirstLength-none lines line before here =
    All-append (λ other. ¬ IsLengthLine other) lines (line ∷ []) before (All-one (λ other. ¬ IsLengthLine other) line here)

-- a line before gave a length
pub FirstLength-kept : (lines : List (List ℕ)) (line value : List ℕ) → FirstLength lines (Some value) → FirstLength (lines ++ line ∷ []) (Some value)
FirstLength-kept lines line value h = record {
  front = h.front;
  line = h.line;
  back = h.back ++ line ∷ [];
  whole = ap (λ all. all ++ line ∷ []) h.whole
      ∙ append_assoc h.front (h.line ∷ h.back) (line ∷ []);
  before = h.before;
  here = h.here;
  value_is = h.value_is;
}

-- no line has come
pub HeaderSoFar-none : (given : InputSeen) → HeaderSoFar given given None header_bytes_max
HeaderSoFar-none given = record {
  lines = [];
  read = Gives-none given;
  each = All-nil IsHeaderLine;
  first = All-nil (λ line. ¬ IsLengthLine line);
  room_is = refl;
}

nil_of : (line : List ℕ) → length line ≡ 0 → line ≡ []
nil_of [] h = refl
nil_of (byte ∷ line) h = absurd (omega arith)

module _ (given mid left : InputSeen) (value : Option (List ℕ)) (room : ℕ) (h : HeaderSoFar given mid value room) where
  -- a line was read
  module _ (line : List ℕ) (read : Gives mid left (line ++ line_end)) (one : HasNoNewline line) (short : length line + 2 ≤ room) where
    read-line : Gives given left (lines_text (h.lines ++ line ∷ []))
    read-line =
        subst (λ (bytes : List ℕ). Gives given left bytes) (sym (lines_text-more h.lines line))
        (Gives-then given mid left (lines_text h.lines) (line ++ line_end) h.read read)

    each-line : length line ≢ 0 → All IsHeaderLine (h.lines ++ line ∷ [])
    each-line some = All-append IsHeaderLine h.lines (line ∷ []) h.each (All-one IsHeaderLine line (λ empty. some (ap length empty), one))

    -- it is one more of the header
    pub HeaderSoFar-more : (found : Option (List ℕ)) (said : List ℕ) (len : ℕ) → length line ≢ 0 → said ≡ line → len ≡ length line
        → ((lines : List (List ℕ)) → FirstLength lines value → FirstLength (lines ++ said ∷ []) found) → HeaderSoFar given left found (room - (len + 2))
    HeaderSoFar-more found said len some same len_is first =
        let text = lines_text-more h.lines line in
        let lens : length (lines_text (h.lines ++ line ∷ [])) ≡ length (lines_text h.lines) + (length line + 2) =
        ap length text ∙ (length-append (lines_text h.lines) (line ++ line_end)
        ∙ ap (λ n. length (lines_text h.lines) + n) (length-append line line_end)) in
        record {
          lines = h.lines ++ line ∷ [];
          read = read-line;
          each = each-line some;
          first = subst (λ (l : List ℕ). FirstLength (h.lines ++ l ∷ []) found) same (first h.lines h.first);
          room_is = omega (arith, lens, h.room_is);
        }

    -- there was no memory for it
    pub ReadingStops-line : (fault : FrameError) → length line ≢ 0 → fault ≡ Memory → ReadingStops given left fault
    ReadingStops-line fault some is =
        subst (λ (f : FrameError). ReadingStops given left f) (sym is)
        (lines_text (h.lines ++ line ∷ []), read-line, inl (open_lines (h.lines ++ line ∷ []) (each-line some)))

    -- it is empty, so the header has ended
    read-end : length line ≡ 0 → Gives given left (lines_text h.lines ++ line_end)
    read-end empty =
        Gives-then given mid left (lines_text h.lines) line_end h.read
        (subst (λ (l : List ℕ). Gives mid left (l ++ line_end)) (nil_of line empty) read)

    pub IsHeader-ended : (len : ℕ) → length line ≡ 0 → (bytes : List ℕ) × (value ≡ Some bytes) × (number_of bytes ≡ Some len)
        → (header : List ℕ) × IsHeader header len × Gives given left header
    IsHeader-ended len empty announced = (
      lines_text h.lines ++ line_end,
      record {
        lines = h.lines;
        value = announced.0;
        whole = refl;
        each = h.each;
        gives = subst (λ (v : Option (List ℕ)). FirstLength h.lines v) announced.1 h.first;
        announced = announced.2;
        short = omega (arith, length-append (lines_text h.lines) line_end, h.room_is);
      },
      read-end empty,
    )

    pub ReadingStops-ended : (fault : FrameError) → length line ≡ 0 → (fault ≡ Broken) × IsNoNumber value → ReadingStops given left fault
    ReadingStops-ended fault empty why =
        let all = read-end empty in
        subst (λ (f : FrameError). ReadingStops given left f) (sym why.0)
        (lines_text h.lines ++ line_end, all.uses, inr (header_without_length h.lines value h.each h.first why.1, all.failures))

  -- no line was read
  stopped : LineRunsDry mid left ⊎ LineIsLong room mid left ⊎ LineHasNoReturn mid left → ReadingStops given left Broken
  stopped (inl dry) =
      let all = RunsDry-then given mid left (lines_text h.lines) dry.taken h.read dry.dry in
      (lines_text h.lines ++ dry.taken, all.uses, inl (open_header h.lines dry.taken h.each dry.open_line, all.cause))
  stopped (inr (inl long)) =
      let all = Gives-then given mid left (lines_text h.lines) long.taken h.read long.gives in
      let enough : header_bytes_max ≤ length (lines_text h.lines ++ long.taken) =
      omega (arith, length-append (lines_text h.lines) long.taken, h.room_is, long.long) in
      (lines_text h.lines ++ long.taken, all.uses, inr (long_header h.lines long.taken h.each long.open_line enough, all.failures))
  stopped (inr (inr bad)) =
      let all = Gives-then given mid left (lines_text h.lines) (bad.line ++ 10 ∷ []) h.read bad.gives in
      (lines_text h.lines ++ (bad.line ++ 10 ∷ []), all.uses, inr (bad_line h.lines bad.line h.each bad.one bad.no_return, all.failures))

  pub ReadingStops-in_line : (fault : FrameError) → LineStops room mid left fault → ReadingStops given left fault
  ReadingStops-in_line Memory why =
      (lines_text h.lines ++ why.0, Gives-then given mid left (lines_text h.lines) why.0 h.read why.1, inl (open_header h.lines why.0 h.each why.2))
  ReadingStops-in_line Broken why = stopped why

-- there is no room for one more line
pub ReadingStops-full : (given left : InputSeen) (value : Option (List ℕ)) (room : ℕ) → HeaderSoFar given left value room → room ≤ 0
    → ReadingStops given left Broken
ReadingStops-full given left value room h none =
    let whole = append-nil (lines_text h.lines) in
    let long : header_bytes_max ≤ length (lines_text h.lines ++ []) = omega (arith, ap length whole, h.room_is) in
    let none_begins = long_header h.lines [] h.each (All-nil (λ byte. byte ≢ 10)) long in
    (lines_text h.lines, h.read.uses, inr (subst BeginsNoFrame whole none_begins, h.read.failures))

-- ---- frames

le_split : (n m : ℕ) → n ≤ m → (n < m) ⊎ (n ≡ m)
le_split zero zero h = inr refl
le_split zero (suc m) h = inl (omega arith)
le_split (suc n) zero h = absurd (omega arith)
le_split (suc n) (suc m) h = elim (le_split n m (omega arith)) [ inl low ↦ inl (omega arith) | inr same ↦ inr (ap suc same) ]

module _ (given mid left : InputSeen) (header : List ℕ) (len : ℕ) (h : IsHeader header len) (read : Gives given mid header) where
  -- a header and a body of the announced length
  pub GivesBody-of : (body : List ℕ) → Gives mid left body → length body ≡ len → GivesBody given left body
  GivesBody-of body second same = record {
    header = header;
    announces = subst (λ (n : ℕ). IsHeader header n) (sym same) h;
    read = Gives-then given mid left header body read second;
  }

  one_at_most : (part : List ℕ) → (length part < len) ⊎ (length part ≡ len) → IsOneFrameAtMost (header ++ part)
  one_at_most part (inl low) = inl (open_body header part len h low)
  one_at_most part (inr same) =
      inr (record { header = header; body = part; whole = refl; announces = subst (λ (n : ℕ). IsHeader header n) (sym same) h })

  -- the body was not read
  pub ReadingStops-in_body : (fault : FrameError) → BodyStops len mid left fault → ReadingStops given left fault
  ReadingStops-in_body Memory why =
      (header ++ why.0, Gives-then given mid left header why.0 read why.1, one_at_most why.0 (le_split (length why.0) len why.2))
  ReadingStops-in_body Broken why =
      let all = RunsDry-then given mid left header why.0 read why.1 in
      (header ++ why.0, all.uses, inl (open_body header why.0 len h why.2, all.cause))
