-- The number and the text of each refusal of a file.
use Rattle.std.specs.Prelude.{ℕ, List, ◌++◌, codes, decimal}
use Rattle.net_records.specs.Refusals.{refusal_number, refusal_text}
use Rattle.docket_refusals.specs.CallRefusals.{call_refusal_number, call_refusal_text}
use Rattle.file_rules.specs.declared.fault.FileFault.{FileFault}
use Rattle.file_rules.specs.declared.fault.FileRefusal.{FileRefusal}
use Rattle.file_rules.specs.declared.fault.FileRefusal.TheVariants.{Net, Call}

abbrev pub file_number : FileRefusal → ℕ
file_number (Net refusal) = refusal_number refusal
file_number (Call refusal) = call_refusal_number refusal

abbrev pub file_text : FileRefusal → List ℕ
file_text (Net refusal) = refusal_text refusal
file_text (Call refusal) = call_refusal_text refusal

-- a refusal by number and text, with its record
abbrev pub file_fault_text : FileFault → List ℕ
file_fault_text fault =
    decimal (file_number fault.refusal)
    ++ (codes " in record " ++ (decimal fault.at ++ (codes ": " ++ file_text fault.refusal)))
