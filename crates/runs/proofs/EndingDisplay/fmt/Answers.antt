use Rattle.std.proofs.Common.{rules, arith, ◌≡◌, ℕ, ◌<◌, ◌^◌, ◌-◌, Bool, false, List, [], ◌++◌, append_assoc}
use Rattle.std.proofs.Output.{has_written_append, has_written_of_eq}
use Rattle.std.proofs.lemmas.Fmt.{hex_byte}
use Rattle.std.specs.Prelude.{codes, decimal}
use Rattle.std.specs.Fmt.{IsPlainFormatter, HasWritten, digits, padded_integral, format_spec}
use Rattle.memory.specs.declared.Reason.{Reason}
use Rattle.memory.specs.Answer.{reason_word}
use Rattle.runs.specs.declared.Ending.TheVariants.{Fault}
use Rattle.runs.specs.Words.{ending_words, after_words, access_word, hexadecimal}
use Rattle.runs.proofs.EndingDisplay.fmt.Goals as goal
use Rattle.runs.proofs.EndingDisplay.fmt.Goals.{in-Exit+in_ok-write-in-Exit, in-Fault+in_ok-write-in-Fault, in-NoResult+in_ok-write-in-NoResult}

-- what the format of a fault writes, `{:02x}` as std says it, and that it is what is stated
abbrev fault_text : List ℕ → ℕ → ℕ → Reason → List ℕ
fault_text access address flags reason =
    codes "fault " ++ (access ++ (codes " at 0x" ++ (digits 16 false address ++ (codes " flags 0x"
    ++ (padded_integral (format_spec 32 0 4 2 (2 ^ 64 - 1)) false [] (digits 16 false flags) ++ (codes " (" ++ (reason_word reason ++ codes ")")))))))

fault_words : (store : Bool) (address flags : ℕ) (reason : Reason) (count : ℕ) → flags < 256
    → fault_text (access_word store) address flags reason ++ after_words count ≡ ending_words (Fault store address flags reason count)
fault_words store address flags reason count small =
    rw (hex_byte false flags small, append_assoc (access_word store), append_assoc (digits 16 false address), append_assoc (reason_word reason))

pub returns-clause-writes : goal.returns-clause-writes
returns-clause-writes g c = λ plain ok.
    let gives = g.W.Write.write_str_gives in
    let after : IsPlainFormatter c.match-self.f → HasWritten gives c.match-self.f (after_words c.match-self.count) c.write-2.new.self = search rules in
    elim c.match-self.branch [
      | in-Exit+in_ok-write-in-Exit w ↦
          let first : HasWritten gives c.args.f.now (codes "exit " ++ hexadecimal w.in-Exit.value) c.match-self.f = search rules in
          has_written_of_eq _ _ _ _ _ (rw (w.in-Exit.is, w.count-is)) (has_written_append _ _ _ _ _ _ first (after first.plain))
      | in-Fault+in_ok-write-in-Fault w ↦
          let access : w.if-store.access.now ≡ access_word w.in-Fault.store = search rules in
          let first : HasWritten gives c.args.f.now (fault_text w.if-store.access.now w.in-Fault.address w.in-Fault.flags w.in-Fault.reason) c.match-self.f = search rules in
          let same = fault_words w.in-Fault.store w.in-Fault.address w.in-Fault.flags w.in-Fault.reason w.in-Fault.count (search (rules, arith)) in
          has_written_of_eq _ _ _ _ _ (rw (w.in-Fault.is, w.count-is, access) same) (has_written_append _ _ _ _ _ _ first (after first.plain))
      | in-NoResult+in_ok-write-in-NoResult w ↦
          let first : HasWritten gives c.args.f.now (codes "no stated result at op " ++ decimal w.in-NoResult.position) c.match-self.f = search rules in
          has_written_of_eq _ _ _ _ _ (rw (w.in-NoResult.is, w.count-is)) (has_written_append _ _ _ _ _ _ first (after first.plain))
    ]
