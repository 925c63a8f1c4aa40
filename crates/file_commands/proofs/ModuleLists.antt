-- The modules of files that were read one after the other.
use Rattle.std.proofs.Common.{◌≡◌, ℕ, List, [], ◌∷◌, ◌++◌, Ok, Err, sym, ap, ◌∙◌, append_assoc, append-nil}
use Rattle.std.proofs.lemmas.List.{map-append}
use Rattle.std.specs.Prelude.{Result}
use Rattle.source_defs.specs.Refusals.{◌>>=◌}
use Rattle.object_defs.specs.Modules.{Module}
use Rattle.object_defs.specs.Reading.{read}
use Rattle.asm_defs.proofs.CheckLaws.{bound}
use Rattle.report_defs.specs.LinkedFiles.{FilesRefusal, in_file, modules_of}
use Rattle.file_commands.specs.declared.file_text.FileText.{FileText}
use Rattle.file_commands.specs.Reading.{model_of_text, model_of_texts}
use Rattle.file_commands.specs.Modules.{ReportsRefused}
use Rattle.report_defs.specs.declared.status.Status.{Status}
use Rattle.report_defs.specs.Report.{Report}
use Rattle.reports.specs.Answers.{WantsMemory, Reported}

abbrev Text : Type 0
Text = List ℕ × List ℕ

texts_more : (texts : List FileText) (text : FileText)
    → model_of_texts (texts ++ text ∷ []) ≡ model_of_texts texts ++ model_of_text text ∷ []
texts_more texts text = map-append model_of_text texts (text ∷ [])

abbrev Modules : Type 0
Modules = Result (List Module) FilesRefusal

abbrev and_others : Modules → List Module → Modules
and_others rest first = rest >>= λ others. Ok (first ++ others)

-- the modules of one more file
modules_more : (front : List Text) (text : Text) (found more : List Module) → modules_of front ≡ Ok found
    → in_file text.0 (read text.1) ≡ Ok more → modules_of (front ++ text ∷ []) ≡ Ok (found ++ more)
modules_more [] text found more e one =
    let none : [] ≡ found = cc e in
    ap (λ (answer : Modules). answer >>= and_others (Ok [])) one ∙ ap Ok (append-nil more ∙ ap (λ found. found ++ more) none)
modules_more (next ∷ front) text found more e one =
    let a = bound (in_file next.0 (read next.1)) (and_others (modules_of front)) found e in
    let b = bound (modules_of front) (λ others. Ok (a.0 ++ others)) found a.2 in
    let is : a.0 ++ b.0 ≡ found = cc b.2 in
    ap (λ (answer : Modules). answer >>= and_others (modules_of (front ++ text ∷ []))) a.1
    ∙ (ap (λ (rest : Modules). and_others rest a.0) (modules_more front text b.0 more b.1 one)
    ∙ ap Ok (sym (append_assoc a.0 b.0 more) ∙ ap (λ found. found ++ more) is))

-- the next file has a bad place
modules_stop : (front rest : List Text) (text : Text) (found : List Module) (refusal : FilesRefusal)
    → modules_of front ≡ Ok found
    → in_file text.0 (read text.1) ≡ Err refusal → modules_of (front ++ text ∷ rest) ≡ Err refusal
modules_stop [] rest text found refusal e one = ap (λ (answer : Modules). answer >>= and_others (modules_of rest)) one
modules_stop (next ∷ front) rest text found refusal e one =
    let a = bound (in_file next.0 (read next.1)) (and_others (modules_of front)) found e in
    let b = bound (modules_of front) (λ others. Ok (a.0 ++ others)) found a.2 in
    ap (λ (answer : Modules). answer >>= and_others (modules_of (front ++ text ∷ rest))) a.1
    ∙ ap (λ (rest : Modules). and_others rest a.0) (modules_stop front rest text b.0 refusal b.1 one)

pub modules_next : (front texts : List FileText) (text : FileText) (found more all : List Module)
    → texts ≡ front ++ text ∷ []
    → all ≡ found ++ more → modules_of (model_of_texts front) ≡ Ok found
    → in_file text.name (read text.bytes.items) ≡ Ok more
    → modules_of (model_of_texts texts) ≡ Ok all
modules_next front texts text found more all is longer so_far one =
    ap (λ texts. modules_of (model_of_texts texts)) is
    ∙ (ap modules_of (texts_more front text)
    ∙ (modules_more (model_of_texts front) (model_of_text text) found more so_far one ∙ ap Ok (sym longer)))

pub modules_end : (front rest texts : List FileText) (text : FileText) (found : List Module) (reported : Result Report Status)
    → texts ≡ front ++ text ∷ rest → modules_of (model_of_texts front) ≡ Ok found
    → Reported (ReportsRefused (in_file text.name (read text.bytes.items))) WantsMemory reported
    → Reported (ReportsRefused (modules_of (model_of_texts texts))) WantsMemory reported
modules_end front rest texts text found (Ok report) is so_far (refusal, refused, same) = (
  refusal,
  ap (λ texts. modules_of (model_of_texts texts)) is
      ∙ (ap modules_of (map-append model_of_text front (text ∷ rest))
      ∙ modules_stop (model_of_texts front) (model_of_texts rest) (model_of_text text) found refusal so_far refused),
  same,
)
modules_end front rest texts text found (Err end) is so_far memory = memory
