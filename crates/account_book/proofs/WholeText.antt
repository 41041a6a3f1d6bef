-- The text of a history is a script that is replayed to that history.
use Rattle.std.proofs.Common.{◌≡◌, ℕ, ◌+◌, ◌^◌, ◌≤◌, Bool, true, false, nat_le, nat_lt, if◌then◌else◌, List, [], ◌∷◌}
use Rattle.std.proofs.Common.{◌++◌, length, codes, None, Ok, Err, refl, sym, ap, subst, ◌∙◌, arith, append_assoc}
use Rattle.std.specs.Str.Lines.{lines}
use Rattle.std.proofs.lemmas.List.{append-nil}
use Rattle.std.proofs.lemmas.Bool.{leb-true}
use Rattle.std.proofs.lemmas.Bool.Decides.{nat_tests}
use Rattle.arn_ids.specs.Environments.{owners}
use Rattle.arn_ids.specs.Faults.{first_fault, is_between}
use Rattle.arn_ids.specs.declared.config.Config.{Config}
use Rattle.lambda_wire.specs.Configuration.{read_setup, said_by}
use Rattle.lambda_wire.specs.ConfigurationText.{setup_text}
use Rattle.lambda_wire.specs.declared.setup.Setup.{Setup}
use Rattle.lambda_wire.specs.declared.fault.WireFault.TheVariants.{TooLong}
use Rattle.lambda_wire.proofs.PlainText.{setup_plain}
use Rattle.lambda_wire.proofs.SetupAgain.{setup_read_again}
use Rattle.call_types.specs.declared.call.Entry.{Entry}
use Rattle.arn_ids.proofs.Printable.{both}
use Rattle.script.proofs.WordBounds.{fits_word}
use Rattle.script.proofs.LineBounds.{HasShortBodies}
use Rattle.account_book.specs.HistoryText.{opening_text, history_text, answers_text}
use Rattle.account_book.specs.Reached.{IsBooked, led_to, IsReached}
use Rattle.account_book.specs.Run.{AtStart, AfterForm, Taking, before, started, opened, replay_from, run}
use Rattle.account_book.proofs.LineEnds.{ended, AreLines, lines_again}
use Rattle.account_book.proofs.HistoryLines.{entries_lines, AreHandedIn, entries_are, entries_lines_are, short_bodies}
use Rattle.account_book.proofs.GoingOn.{Leads, leads_on, leads_line}
use Rattle.account_book.proofs.Reaching.{handed_in}
use Rattle.account_book.proofs.Replaying.{book_with, leads_again}

-- what the configuration's line says
abbrev setup : Config → ℕ → ℕ → Setup
setup config salt max_entries = record { config = config; salt = salt; max_entries = max_entries }

-- all lines of the text
abbrev pub history_lines : Config → ℕ → ℕ → List Entry → List (List ℕ)
history_lines config salt max_entries h = codes "form 2" ∷ setup_text config salt max_entries ∷ entries_lines config salt h h

text_is : (config : Config) (salt max_entries : ℕ) (h : List Entry) → history_text config salt max_entries h ≡ ended (history_lines config salt max_entries h)
unfolding history_text
text_is config salt max_entries h =
    ap (λ (t : List ℕ). opening_text config salt max_entries ++ t) (entries_are config salt h h)
    ∙ ap (λ (t : List ℕ). codes "form 2\n" ++ t) (append_assoc (setup_text config salt max_entries) (10 ∷ []) (ended (entries_lines config salt h h)))

-- a line that is read isn't too long
short_line : (bytes : List ℕ) (s : Setup) → read_setup bytes ≡ Ok s → length bytes ≤ 20000000
unfolding read_setup
short_line bytes s e = go (nat_lt 20000000 (length bytes)) refl e
  where
    go : (b : Bool) → nat_lt 20000000 (length bytes) ≡ b → (if b then Err TooLong else said_by bytes) ≡ Ok s → length bytes ≤ 20000000
    go true q r = cc
    go false q r = grind (arith, nat_tests)

opened_is : (config : Config) (salt max_entries : ℕ) → first_fault config ≡ None
    → is_between (length (owners config) + 1) (2 ^ 32) max_entries ≡ true
    → read_setup (setup_text config salt max_entries) ≡ Ok (setup config salt max_entries)
    → opened (setup_text config salt max_entries) ≡ Ok (book_with config salt max_entries [])
unfolding opened
opened_is config salt max_entries sound within back = rw (back, sound, within) refl

begins : (config : Config) (salt max_entries : ℕ) → first_fault config ≡ None
    → is_between (length (owners config) + 1) (2 ^ 32) max_entries ≡ true
    → read_setup (setup_text config salt max_entries) ≡ Ok (setup config salt max_entries)
    → Leads (codes "form 2" ∷ setup_text config salt max_entries ∷ []) AtStart (Taking true (book_with config salt max_entries [])) []
begins config salt max_entries sound within back =
    leads_on (codes "form 2" ∷ []) (setup_text config salt max_entries ∷ []) AtStart AfterForm (Taking true (book_with config salt max_entries [])) [] []
    (leads_line (codes "form 2") AtStart AfterForm [] (λ number. refl))
    (leads_line (setup_text config salt max_entries) AfterForm (Taking true (book_with config salt max_entries [])) [] (λ number. ap (started true) (opened_is config salt max_entries sound within back)))

-- The lines of a history, whatever comes after them.
reads : (config : Config) (salt max_entries : ℕ) (h : List Entry) → first_fault config ≡ None
    → is_between (length (owners config) + 1) (2 ^ 32) max_entries ≡ true
    → read_setup (setup_text config salt max_entries) ≡ Ok (setup config salt max_entries)
    → IsReached config max_entries h
    → (AreLines (history_lines config salt max_entries h)) × Leads (history_lines config salt max_entries h) AtStart (Taking true (book_with config salt max_entries h)) (answers_text salt h)
reads config salt max_entries h sound within back r =
    subst
    (λ (k : List Entry). (AreLines (history_lines config salt max_entries k)) × Leads (history_lines config salt max_entries k) AtStart (Taking true (book_with config salt max_entries k)) (answers_text salt k))
    (sym r.led) (
      (fits_word 20000000 (codes "form 2") refl, (record { plain = setup_plain config salt max_entries; short = short_line (setup_text config salt max_entries) _ back }, entries_lines_are config salt k k sound short handed)),
      leads_on (codes "form 2" ∷ setup_text config salt max_entries ∷ []) (entries_lines config salt k k) AtStart
          (Taking true (book_with config salt max_entries [])) (Taking true (book_with config salt max_entries k)) []
          (answers_text salt k)
          (begins config salt max_entries sound within back) (leads_again config salt max_entries k r.calls sound short r.taken),
    )
  where
    k : List Entry
    k = led_to config r.calls

    handed : AreHandedIn config k
    handed = handed_in config max_entries r.calls r.taken

    short : HasShortBodies k
    short = short_bodies config k handed

-- how many lines there are
counted : (config : Config) (salt max_entries : ℕ) (h : List Entry) → AreLines (history_lines config salt max_entries h)
    → length (lines (history_text config salt max_entries h)) ≡ length (history_lines config salt max_entries h)
counted config salt max_entries h all =
    ap (λ (t : List ℕ). length (lines t)) (text_is config salt max_entries h ∙ sym (append-nil (ended (history_lines config salt max_entries h))))
    ∙ ap length (lines_again (history_lines config salt max_entries h) [] all ∙ append-nil (history_lines config salt max_entries h))

read_again : (config : Config) (salt max_entries : ℕ) → IsBooked config salt max_entries
    → read_setup (setup_text config salt max_entries) ≡ Ok (setup config salt max_entries)
read_again config salt max_entries b =
    let most = leb-true max_entries (2 ^ 32) (both (nat_le (length (owners config) + 1) max_entries) (nat_le max_entries (2 ^ 32)) b.within).1 in
    setup_read_again config salt max_entries b.sound b.in_range b.salted (omega (arith, most))

-- The text, and then more of a script.
pub replayed_on : (config : Config) (salt max_entries : ℕ) (h : List Entry) (more : List ℕ) → IsBooked config salt max_entries → IsReached config max_entries h
    → run (history_text config salt max_entries h ++ more) ≡ before (answers_text salt h) (replay_from (1 + length (lines (history_text config salt max_entries h))) (Taking true (book_with config salt max_entries h)) (lines more))
replayed_on config salt max_entries h more b r =
    let all = reads config salt max_entries h b.sound b.within (read_again config salt max_entries b) r in
    ap (λ (t : List ℕ). run (t ++ more)) (text_is config salt max_entries h)
    ∙ ap (replay_from 1 AtStart) (lines_again (history_lines config salt max_entries h) more all.0)
    ∙ all.1 1 (lines more)
    ∙ ap
    (λ (n : ℕ). before (answers_text salt h) (replay_from (1 + n) (Taking true (book_with config salt max_entries h)) (lines more)))
    (sym (counted config salt max_entries h all.0))

-- The text alone.
pub replayed : (config : Config) (salt max_entries : ℕ) (h : List Entry) → IsBooked config salt max_entries → IsReached config max_entries h
    → run (history_text config salt max_entries h) ≡ record { text = answers_text salt h; fault = None }
replayed config salt max_entries h b r =
    ap run (sym (append-nil (history_text config salt max_entries h))) ∙ replayed_on config salt max_entries h [] b r
    ∙ ap (λ (t : List ℕ). record { text = t; fault = None }) (append-nil (answers_text salt h))
