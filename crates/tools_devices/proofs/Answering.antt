-- How a run goes on with each line that is read, and how it ends.
use Rattle.std.proofs.Common.{◌≡◌, ℕ, ◌+◌, ◌<◌, ◌≤◌, List, [], ◌∷◌, ◌++◌, length, Result, Ok, Err, refl, sym}
use Rattle.std.proofs.Common.{ap, ◌∙◌, subst, arith, append_assoc, append-nil, inl, inr}
use Rattle.std.proofs.lemmas.Grind.{flat_map-append}
use Rattle.std.specs.Io.KnownBytes.{Consumes}
use Rattle.std.specs.List.{flat_map}
use Rattle.tools_devices.proofs.LineSteps.{AllByRecursion-push}
use Rattle.tools_devices.proofs.Written.{Consumes-then, Gives-none, Gives-then, TakesAll-none, TakesAll-then, TakesFront-then}
use Rattle.tools_devices.specs.Answering.{AnswersLine, Answered, AreBegun, LinesEnd, LinesLead, RunsOut}
use Rattle.tools_devices.specs.Counted.{Observed}
use Rattle.tools_devices.specs.inside.LineReader.{CannotRead, ReadsLine, ahead_of, line_limit_of, last_line_of, reads_left_of}
use Rattle.tools_devices.specs.Reading.{CannotReadOn, reads_max, Gives}
use Rattle.tools_devices.specs.Lines.{HasLines, IsOneLine, IsWithin, with_last, with_newline}
use Rattle.tools_devices.specs.Writing.{TakesAll}
use Rattle.tools_devices.specs.declared.line_reader.LineReader.{LineReader}
use Rattle.tools_devices.specs.declared.line_reader.Next.TheVariants.{Line, LastLine, End}
use Rattle.tools_devices.specs.declared.tool_error.ToolError.{ToolError}
use Rattle.tools_devices.specs.declared.tool_error.ToolError.TheVariants.{Usage, NoTerminal, BadEntry, ReadFault, WriteFault}
use Rattle.tools_devices.specs.declared.tool_error.ToolError.TheVariants.{LineTooLong, BlockTooLong, TooManyBlocks, Memory}

-- ---- lines

HasLines-none : (limit : ℕ) → HasLines limit [] [] []
HasLines-none limit = record { split = record { whole = refl; each = tt; partial = tt }; short = tt }

module _ (limit : ℕ) (taken : List ℕ) (lines : List (List ℕ)) (line : List ℕ) (has : HasLines limit taken lines []) (one : IsOneLine line) where
  -- a line has begun
  HasLines-front : HasLines limit (taken ++ line) lines line
  HasLines-front = record {
    split = record { whole = ap (λ (t : List ℕ). t ++ line) (has.split.whole ∙ append-nil _); each = has.split.each; partial = one };
    short = has.short;
  }

  -- a line is complete
  HasLines-more : IsWithin limit line → HasLines limit (taken ++ with_newline line) (lines ++ line ∷ []) []
  HasLines-more short =
      let parts : flat_map with_newline (lines ++ line ∷ []) ≡ flat_map with_newline lines ++ with_newline line =
      flat_map-append with_newline lines (line ∷ []) ∙ ap (λ (t : List ℕ). flat_map with_newline lines ++ t) (append-nil (with_newline line)) in
      let whole : taken ++ with_newline line ≡ flat_map with_newline (lines ++ line ∷ []) =
      ap (λ (t : List ℕ). t ++ with_newline line) (has.split.whole ∙ append-nil _) ∙ sym parts in record {
        split = record {
          whole = whole ∙ sym (append-nil _);
          each = AllByRecursion-push IsOneLine lines line has.split.each one;
          partial = tt;
        };
        short = AllByRecursion-push (IsWithin limit) lines line has.short short;
      }

-- the newline of a line is of what follows
cut_before : (taken line rest : List ℕ) → (taken ++ with_newline line) ++ rest ≡ (taken ++ line) ++ 10 ∷ rest
cut_before taken line rest = ap (λ (t : List ℕ). t ++ rest) (sym (append_assoc taken line (10 ∷ []))) ∙ append_assoc (taken ++ line) (10 ∷ []) rest

with_last-some : (lines : List (List ℕ)) (line : List ℕ) → 0 < length line → with_last lines line ≡ lines ++ line ∷ []
with_last-some lines [] some = absurd (omega arith)
with_last-some lines (byte ∷ line) some = refl

module _ {S : Type 0} (Leads : S → List ℕ → S → List ℕ → Type 0) where
  -- lines lead further by one more line
  LinesLead-push : (lines : List (List ℕ)) (before middle after : S) (output reply line : List ℕ) → LinesLead Leads lines before middle output
      → Leads middle line after reply → LinesLead Leads (lines ++ line ∷ []) before after (output ++ reply)
  LinesLead-push [] before middle after output reply line lead leads = (
    after,
    reply,
    [],
    subst (λ (s : S). Leads s line after reply) lead.0 leads,
    (refl, refl),
    ap (λ (t : List ℕ). t ++ reply) lead.1 ∙ sym (append-nil reply),
  )
  LinesLead-push (first ∷ lines) before middle after output reply line lead leads = (
    lead.0,
    lead.1,
    lead.2 ++ reply,
    lead.3,
    LinesLead-push lines lead.0 middle after lead.2 reply line lead.4 leads,
    ap (λ (t : List ℕ). t ++ reply) lead.5 ∙ append_assoc lead.1 lead.2 reply,
  )

  module _ (MayRunOut : Type 0) (limit : ℕ) (start : S) (given before : Observed) where
    -- the lines that were read are answered, and what was read after them is ahead
    pub record Progress (Holds : S → Type 0) (reading : LineReader) (left now : Observed) : Type 0 where
      pub taken : List ℕ
      pub lines : List (List ℕ)
      pub end : S
      pub output : List ℕ
      pub has : HasLines limit taken lines []
      pub lead : LinesLead Leads lines start end output
      pub holds : Holds end
      pub gives : Gives given left (taken ++ ahead_of reading)
      pub written : TakesAll before now output

    pub Progress-start : (Holds : S → Type 0) (reading : LineReader) → Holds start → ahead_of reading ≡ [] → Progress Holds reading given before
    Progress-start Holds reading holds ahead = record {
      taken = [];
      lines = [];
      end = start;
      output = [];
      has = HasLines-none limit;
      lead = (refl, refl);
      holds = holds;
      gives = subst (λ (t : List ℕ). Gives given given t) (sym ahead) (Gives-none given);
      written = TakesAll-none before;
    }

    module _ (Holds : S → Type 0) (reading : LineReader) (left now : Observed) (limited : line_limit_of reading ≡ limit)
        (p : Progress Holds reading left now) (next : LineReader) (later : Observed) where
      -- the reader gave what was ahead and more
      gives-more : (came : List ℕ) → Gives left later came → Gives given later (p.taken ++ (ahead_of reading ++ came))
      gives-more came gives =
          subst (λ (t : List ℕ). Gives given later t) (append_assoc p.taken (ahead_of reading) came)
          (Gives-then given left later (p.taken ++ ahead_of reading) came p.gives gives)

      short : (line : List ℕ) → length line ≤ line_limit_of reading → IsWithin limit line
      short line low = subst (λ (n : ℕ). length line ≤ n) limited low

      cannot : CannotRead next left later → reads_left_of next + later.reads ≡ reads_max + given.reads → CannotReadOn given later
      cannot (inl failed) spends = inl (failed ∙ ap (λ (n : ℕ). n + 1) p.gives.failures)
      cannot (inr used) spends =
          let none : reads_left_of next ≡ 0 = used.1 in
          inr (used.0 ∙ p.gives.failures, omega arith)

      -- no more can be read, or a line is over the limit
      pub LinesEnd-fault : (Holds2 : S → Type 0) (e : ToolError) → ReadsLine reading next left later (Err e)
          → reads_left_of next + later.reads ≡ reads_max + given.reads
          → LinesEnd Leads MayRunOut limit start Holds2 given later before now (Err e)
      LinesEnd-fault Holds2 Usage r s = absurd r
      LinesEnd-fault Holds2 NoTerminal r s = absurd r
      LinesEnd-fault Holds2 (BadEntry why) r s = absurd r
      LinesEnd-fault Holds2 ReadFault r s = record {
        taken = p.taken ++ (ahead_of reading ++ r.0);
        rest = [];
        lines = p.lines;
        line = ahead_of reading ++ r.0;
        end = p.end;
        output = p.output;
        gives = subst (λ (t : List ℕ). Consumes given.bytes later.bytes t) (append_assoc p.taken (ahead_of reading) r.0 ∙ sym (append-nil _))
            (Consumes-then given.bytes left.bytes later.bytes (p.taken ++ ahead_of reading) r.0 p.gives.bytes r.1);
        has_lines = HasLines-front limit p.taken p.lines (ahead_of reading ++ r.0) p.has r.2;
        lead = p.lead;
        written = p.written;
        cause = (refl, short (ahead_of reading ++ r.0) r.3, cannot r.4 s);
      }
      LinesEnd-fault Holds2 WriteFault r s = absurd r
      LinesEnd-fault Holds2 LineTooLong r s =
          let gives : Gives given later ((p.taken ++ r.1) ++ r.2) =
          subst (λ (t : List ℕ). Gives given later t) (ap (λ (t : List ℕ). p.taken ++ t) r.4 ∙ sym (append_assoc p.taken r.1 r.2)) (gives-more r.0 r.3) in
          record {
            taken = p.taken ++ r.1;
            rest = r.2;
            lines = p.lines;
            line = r.1;
            end = p.end;
            output = p.output;
            gives = gives.bytes;
            has_lines = HasLines-front limit p.taken p.lines r.1 p.has r.5;
            lead = p.lead;
            written = p.written;
            cause = (gives.failures, subst (λ (n : ℕ). n < length r.1) limited r.6);
          }
      LinesEnd-fault Holds2 (BlockTooLong n) r s = absurd r
      LinesEnd-fault Holds2 TooManyBlocks r s = absurd r
      LinesEnd-fault Holds2 Memory r s = absurd r

      -- the input has ended after a newline
      pub LinesEnd-end : ReadsLine reading next left later (Ok End) → LinesEnd Leads MayRunOut limit start Holds given later before now (Ok tt)
      LinesEnd-end r = record {
        input = p.taken;
        lines = p.lines;
        line = [];
        end = p.end;
        output = p.output;
        gives = subst (λ (t : List ℕ). Gives given later t)
            (ap (λ (t : List ℕ). p.taken ++ (t ++ [])) r.1 ∙ append-nil p.taken) (gives-more [] r.0);
        at_end = r.2;
        has_lines = p.has;
        short = omega arith;
        lead = p.lead;
        holds = p.holds;
        written = p.written;
      }

      -- the next line was taken
      module _ (Holds2 : S → Type 0) (now2 : Observed) where
        -- there was no memory for it
        LinesEnd-memory : (taken rest line : List ℕ) (result : Result Unit ToolError) → HasLines limit taken p.lines line → IsWithin limit line
            → Gives given later (taken ++ rest) → MayRunOut → RunsOut now now2 result
            → LinesEnd Leads MayRunOut limit start Holds2 given later before now2 result
        LinesEnd-memory taken rest line (Ok x) has within gives may out = absurd out
        LinesEnd-memory taken rest line (Err e) has within gives may out =
            subst (λ (x : ToolError). LinesEnd Leads MayRunOut limit start Holds2 given later before now2 (Err x)) (sym out.0)
            (inr (record {
              taken = taken;
              rest = rest;
              lines = p.lines;
              line = line;
              end = p.end;
              output = p.output;
              gives = gives.bytes;
              has_lines = has;
              lead = p.lead;
              written = subst (λ (w : Observed). TakesAll before w p.output) (sym out.1) p.written;
              cause = (gives.failures, within, may);
            }))

        -- its reply was cut
        LinesEnd-cut : (taken rest : List ℕ) (lines : List (List ℕ)) (line : List ℕ) (e : ToolError)
            → (a : Answered Holds2 (Leads p.end line) now now2 (Err e)) → lines ≡ p.lines ++ line ∷ [] → AreBegun limit taken rest later lines
            → Gives given later (taken ++ rest) → LinesEnd Leads MayRunOut limit start Holds2 given later before now2 (Err e)
        LinesEnd-cut taken rest lines line e a is begun gives =
            subst (λ (x : ToolError). LinesEnd Leads MayRunOut limit start Holds2 given later before now2 (Err x)) (sym a.wrote.0) (record {
              taken = taken;
              rest = rest;
              lines = lines;
              end = a.next;
              output = p.output ++ a.reply;
              gives = gives;
              are_begun = begun;
              lead = subst (λ (ls : List (List ℕ)). LinesLead Leads ls start a.next (p.output ++ a.reply)) (sym is)
                  (LinesLead-push p.lines start p.end a.next p.output a.reply line p.lead a.leads);
              written = TakesFront-then before now now2 p.output a.reply p.written a.wrote.1;
            })

        -- it has a newline
        module _ (r : ReadsLine reading next left later (Ok Line)) where
          abbrev complete : List (List ℕ)
          complete = p.lines ++ last_line_of next ∷ []

          gives-line : Gives given later ((p.taken ++ with_newline (last_line_of next)) ++ ahead_of next)
          gives-line =
              subst (λ (t : List ℕ). Gives given later t)
              (ap (λ (t : List ℕ). p.taken ++ t) r.2 ∙ sym (append_assoc p.taken (with_newline (last_line_of next)) (ahead_of next)))
              (gives-more r.0 r.1)

          has-line : HasLines limit (p.taken ++ with_newline (last_line_of next)) complete []
          has-line = HasLines-more limit p.taken p.lines (last_line_of next) p.has r.3 (short (last_line_of next) r.4)

          -- a reply that was written whole
          Progress-answered : Answered Holds2 (Leads p.end (last_line_of next)) now now2 (Ok tt)
              → Progress Holds2 next later now2
          Progress-answered a = record {
            taken = p.taken ++ with_newline (last_line_of next);
            lines = complete;
            end = a.next;
            output = p.output ++ a.reply;
            has = has-line;
            lead = LinesLead-push p.lines start p.end a.next p.output a.reply (last_line_of next) p.lead a.leads;
            holds = a.holds;
            gives = gives-line;
            written = TakesAll-then before now now2 p.output a.reply p.written a.wrote;
          }

          pub Progress-line : AnswersLine Holds2 (Leads p.end (last_line_of next)) MayRunOut now now2 (Ok tt)
              → Progress Holds2 next later now2
          Progress-line (inl a) = Progress-answered a
          Progress-line (inr out) = absurd out.1

          pub LinesEnd-line : (e : ToolError) → AnswersLine Holds2 (Leads p.end (last_line_of next)) MayRunOut now now2 (Err e)
              → LinesEnd Leads MayRunOut limit start Holds2 given later before now2 (Err e)
          LinesEnd-line e (inl a) =
              LinesEnd-cut (p.taken ++ with_newline (last_line_of next)) (ahead_of next) complete (last_line_of next) e a refl (inl ([], has-line)) gives-line
          LinesEnd-line e (inr out) =
              LinesEnd-memory (p.taken ++ last_line_of next) (10 ∷ ahead_of next) (last_line_of next) (Err e)
              (HasLines-front limit p.taken p.lines (last_line_of next) p.has r.3) (short (last_line_of next) r.4)
              (subst (λ (t : List ℕ). Gives given later t) (cut_before p.taken (last_line_of next) (ahead_of next)) gives-line) out.0 out.1

        -- it is the last, and has no newline
        module _ (r : ReadsLine reading next left later (Ok LastLine)) where
          gives-last : Gives given later (p.taken ++ last_line_of next)
          gives-last = subst (λ (t : List ℕ). Gives given later (p.taken ++ t)) r.2 (gives-more r.0 r.1)

          has-last : HasLines limit (p.taken ++ last_line_of next) p.lines (last_line_of next)
          has-last = HasLines-front limit p.taken p.lines (last_line_of next) p.has r.4

          all : with_last p.lines (last_line_of next) ≡ p.lines ++ last_line_of next ∷ []
          all = with_last-some p.lines (last_line_of next) r.6

          LinesEnd-answered : (result : Result Unit ToolError) → Answered Holds2 (Leads p.end (last_line_of next)) now now2 result
              → LinesEnd Leads MayRunOut limit start Holds2 given later before now2 result
          LinesEnd-answered (Ok x) a = record {
            input = p.taken ++ last_line_of next;
            lines = p.lines;
            line = last_line_of next;
            end = a.next;
            output = p.output ++ a.reply;
            gives = gives-last;
            at_end = r.3;
            has_lines = has-last;
            short = short (last_line_of next) r.5;
            lead = subst (λ (ls : List (List ℕ)). LinesLead Leads ls start a.next (p.output ++ a.reply)) (sym all)
                (LinesLead-push p.lines start p.end a.next p.output a.reply (last_line_of next) p.lead a.leads);
            holds = a.holds;
            written = TakesAll-then before now now2 p.output a.reply p.written a.wrote;
          }
          LinesEnd-answered (Err e) a =
              LinesEnd-cut (p.taken ++ last_line_of next) [] (with_last p.lines (last_line_of next)) (last_line_of next) e a all
              (inr (p.lines, last_line_of next, has-last, short (last_line_of next) r.5, refl, r.3, refl)) (rw append-nil gives-last)

          pub LinesEnd-last : (result : Result Unit ToolError) → AnswersLine Holds2 (Leads p.end (last_line_of next)) MayRunOut now now2 result
              → LinesEnd Leads MayRunOut limit start Holds2 given later before now2 result
          LinesEnd-last result (inl a) = LinesEnd-answered result a
          LinesEnd-last result (inr out) =
              LinesEnd-memory (p.taken ++ last_line_of next) [] (last_line_of next) result has-last (short (last_line_of next) r.5)
              (rw append-nil gives-last) out.0 out.1
