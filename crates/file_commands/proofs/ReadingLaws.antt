-- Files that are read one after the other.
use Rattle.std.proofs.Common.{◌≡◌, ℕ, ◌+◌, ◌<◌, true, false, List, [], ◌∷◌, ◌++◌, length, Some, Ok, Err}
use Rattle.std.proofs.Common.{refl, sym, ap, ◌∙◌, subst, arith, append_assoc, append-nil, length-append, get_or, take, drop}
use Rattle.std.specs.Prelude.{Option, Result, ⊤, IfSome, map, nat_lt}
use Rattle.std.specs.Result.{IsErrAnd}
use Rattle.std.proofs.lemmas.Bool.Decides.{nat_tests}
use Rattle.std.proofs.lemmas.List.{drop_more, take-append-drop, map-append, length-map}
use Rattle.source_defs.specs.Refusals.{◌>>=◌}
use Rattle.shelf_defs.specs.Files.{Contents, of_files}
use Rattle.shelf_defs.specs.Questions.{FileAnswer, Bytes, NoFile, OverLimit, Unanswered, Question, Fits, Agrees, InTurn, IsNextOf}
use Rattle.shelf_defs.specs.Questions.{names_of}
use Rattle.bench_shelf.specs.declared.error.FileError.{FileError}
use Rattle.bench_shelf.specs.declared.error.FileError.TheVariants as unread
use Rattle.bench_shelf.specs.States.{ShelfState}
use Rattle.bench_shelf.specs.Causes.{ReadsOnce, AsksOne, CountsGrew, FileCauses, IsOfName, ReadWithinLimit, answer_by}
use Rattle.bench_shelf.specs.Leading.{AllGiven}
use Rattle.bench_shelf.proofs.UnchangedParts.{within_then}
use Rattle.bench_shelf.proofs.AskingLaws.{agrees_front, agrees_back, shown_then, shown_one, reads_then, none_follow, turns_then}
use Rattle.report_defs.specs.Report.{largest_input}
use Rattle.report_defs.specs.LinkedFiles as spec
use Rattle.report_defs.specs.LinkedFiles.{FilesRefusal, TooLarge, taken_file, read_by}
use Rattle.file_commands.specs.declared.file_text.FileText.{FileText}
use Rattle.file_commands.specs.Reading.{model_of_text, model_of_texts, Refuses, LinkDialogue, EndsReading, Reads}

-- the question for a file that was read
abbrev pub question_of : FileText → Question
question_of text = record { name = text.name; answer = Bytes text.bytes.items }

abbrev pub questions_of : List FileText → List Question
questions_of texts = map question_of texts

abbrev pub names_in : List FileText → List (List ℕ)
names_in texts = names_of (questions_of texts)

abbrev Text : Type 0
Text = List ℕ × List ℕ

abbrev Texts : Type 0
Texts = Result (List Text) FilesRefusal

abbrev with_others : Texts → Text → Texts
with_others rest first = rest >>= λ others. Ok (first ∷ others)

-- ---- what is read by some contents

text_read : (text : FileText) (content : Option (List ℕ)) → content ≡ Some text.bytes.items → taken_file text.name content ≡ Ok (model_of_text text)
text_read text content is =
    let le = text.within in
    let fits : nat_lt largest_input (length text.bytes.items) ≡ false = grind (arith, nat_tests, le) in
    rw (is, fits) refl

module _ (contents : Contents) where
  -- one file, and then others
  read_first : (number : ℕ) (text : FileText) (names : List (List ℕ)) (others : Texts) → contents number text.name ≡ Some text.bytes.items
      → read_by contents (number + 1) names ≡ others → read_by contents number (text.name ∷ names) ≡ with_others others (model_of_text text)
  read_first number text names others is rest =
      ap (λ (answer : Result Text FilesRefusal). answer >>= with_others (read_by contents (number + 1) names)) (text_read text (contents number text.name) is)
      ∙ ap (λ (rest : Texts). with_others rest (model_of_text text)) rest

  all_read : (number : ℕ) (texts : List FileText) → Agrees largest_input contents number (questions_of texts)
      → read_by contents number (names_in texts) ≡ Ok (model_of_texts texts)
  all_read number [] agrees = refl
  all_read number (text ∷ texts) agrees =
      read_first number text (names_in texts) (Ok (model_of_texts texts)) agrees.0 (all_read (number + 1) texts agrees.1)

  -- the next file is not read
  read_stops : (number : ℕ) (texts : List FileText) (rest : List (List ℕ)) (name : List ℕ) (refusal : FilesRefusal)
      → Agrees largest_input contents number (questions_of texts) → taken_file name (contents (number + length texts) name) ≡ Err refusal
      → read_by contents number (names_in texts ++ name ∷ rest) ≡ Err refusal
  read_stops number [] rest name refusal agrees is =
      let here : number + length {A = FileText} [] ≡ number = omega arith in
      ap (λ (answer : Result Text FilesRefusal). answer >>= with_others (read_by contents (number + 1) rest))
      (subst (λ n. taken_file name (contents n name) ≡ Err refusal) here is)
  read_stops number (text ∷ texts) rest name refusal agrees is =
      let here : number + length (text ∷ texts) ≡ number + 1 + length texts = omega arith in
      read_first number text (names_in texts ++ name ∷ rest) (Err refusal) agrees.0
      (read_stops (number + 1) texts rest name refusal agrees.1 (subst (λ n. taken_file name (contents n name) ≡ Err refusal) here is))

-- a file that is not read
refuses_one : (error : FileError) (name : List ℕ) (content : Option (List ℕ)) → IsOfName name error → Fits largest_input (answer_by error) content
    → Refuses error (taken_file name content)
refuses_one (unread.Missing other) name content is none = ap (taken_file name) none ∙ ap (λ n. Err (spec.Missing n)) (sym is)
refuses_one unread.TooLarge name content is more =
    let size : largest_input < length more.0 = more.2 in
    let large : nat_lt largest_input (length more.0) ≡ true = grind (arith, nat_tests, size) in
    rw (more.1, large) refl
refuses_one _ name content is fits = tt

refused_by : {A B : Type 0} (error : FileError) (a : Result A FilesRefusal) (b : Result B FilesRefusal)
    → ((refusal : FilesRefusal) → a ≡ Err refusal → b ≡ Err refusal) → Refuses error a → Refuses error b
refused_by (unread.Missing name) a b same refused = same _ refused
refused_by unread.TooLarge a b same refused = same _ refused
refused_by _ a b same refused = tt

-- ---- what is asked

-- files were read, one after the other
pub record ReadSoFar (texts : List FileText) (s t : ShelfState) : Type 0 where
  pub reads : ReadsOnce largest_input (questions_of texts) s t
  pub files : IfSome s.files (λ files. Agrees largest_input (of_files files) 0 (questions_of texts))

all_given : (texts : List FileText) → AllGiven (questions_of texts)
all_given [] = tt
all_given (text ∷ texts) = (tt, all_given texts)

-- the names of files that were read are the next of all
turns_of : (names : List (List ℕ)) (front : List Question) (texts : List FileText) (rest : List (List ℕ)) → names ≡ names_of front ++ (names_in texts ++ rest)
    → InTurn (IsNextOf names) front (questions_of texts)
turns_of names front [] rest is = tt
turns_of names front (text ∷ texts) rest is = (
  (names_in texts ++ rest, is),
  tt,
  turns_of names (front ++ question_of text ∷ []) texts rest
      (is
      ∙ (sym (append_assoc (names_of front) (text.name ∷ []) (names_in texts ++ rest))
      ∙ ap (λ front. front ++ (names_in texts ++ rest)) (sym (map-append (λ question. question.name) front (question_of text ∷ []))))),
)

module _ (texts : List FileText) (s t u : ShelfState) (so_far : ReadSoFar texts s t) where
  -- one more file was asked for
  both : (name : List ℕ) (answer : FileAnswer) → AsksOne largest_input name answer t u
      → ReadsOnce largest_input (questions_of texts ++ record { name = name; answer = answer } ∷ []) s u
      × IfSome s.files (λ files. Agrees largest_input (of_files files) 0 (questions_of texts ++ record { name = name; answer = answer } ∷ []))
  both name answer asks =
      let question : Question = record { name = name; answer = answer } in (
        reads_then largest_input (questions_of texts) (question ∷ []) s t u so_far.reads asks.reads,
        shown_then largest_input s.files (questions_of texts) (question ∷ []) so_far.files
            (subst (λ shown. IfSome shown (λ files. Agrees largest_input (of_files files) 0 (question ∷ []))) so_far.reads.files
            (shown_one largest_input t.files name answer asks.fits)),
      )

  pub read_more : (text : FileText) (more : List FileText) → more ≡ texts ++ text ∷ [] → AsksOne largest_input text.name (Bytes text.bytes.items) t u
      → ReadSoFar more s u
  read_more text more is asks =
      let all = both text.name (Bytes text.bytes.items) asks in
      let same : questions_of texts ++ question_of text ∷ [] ≡ questions_of more =
      sym (ap questions_of is ∙ map-append question_of texts (text ∷ [])) in
      record {
        reads = subst (λ questions. ReadsOnce largest_input questions s u) same all.0;
        files = subst (λ questions. IfSome s.files (λ files. Agrees largest_input (of_files files) 0 questions)) same all.1;
      }

  module _ (names : List (List ℕ)) (name : List ℕ) (rest : List (List ℕ)) (are : names ≡ names_in texts ++ name ∷ rest) where
    asked_next : (answer : FileAnswer) → AsksOne largest_input name answer t u
        → LinkDialogue s u names (questions_of texts ++ record { name = name; answer = answer } ∷ [])
    asked_next answer asks =
        let all = both name answer asks in
        let question : Question = record { name = name; answer = answer } in
        record {
          turns = turns_then (IsNextOf names) [] (questions_of texts) (question ∷ []) (turns_of names [] texts (name ∷ rest) are) (all_given texts)
              ((rest, are), none_follow answer, tt);
          few = omega (
            arith,
            ap length are,
            length-append (names_in texts) (name ∷ rest),
            length-append (questions_of texts) (question ∷ []),
            length-map (questions_of texts) (λ (question : Question). question.name),
          );
          reads = all.0;
          files = all.1;
        }

    -- it was read, and memory ran out
    pub reads_kept : {A : Type 0} (see : A → List (List ℕ × List ℕ)) (bytes : List ℕ) → AsksOne largest_input name (Bytes bytes) t u
        → Reads see names (Err unread.Memory) s u
    reads_kept see bytes asks = record {
      questions = questions_of texts ++ record { name = name; answer = Bytes bytes } ∷ [];
      dialogue = asked_next (Bytes bytes) asks;
      ends = tt;
      gives = λ contents agrees. tt;
    }

    -- it was not read
    pub reads_stopped : {A : Type 0} (see : A → List (List ℕ × List ℕ)) (error : FileError) → IsOfName name error
        → AsksOne largest_input name (answer_by error) t u → Reads see names (Err error) s u
    reads_stopped see error is asks = record {
      questions = questions_of texts ++ last ∷ [];
      dialogue = asked_next (answer_by error) asks;
      ends = by_error error is;
      gives = λ contents agrees.
          let fits = agrees_back largest_input contents 0 (questions_of texts) (last ∷ []) agrees in
          let here : 0 + length (questions_of texts) ≡ 0 + length texts = omega (arith, length-map texts question_of) in
          refused_by error (taken_file name (contents (0 + length texts) name)) (read_by contents 0 names)
          (λ refusal e. ap (read_by contents 0) are
          ∙ read_stops contents 0 texts rest name refusal (agrees_front largest_input contents 0 (questions_of texts) (last ∷ []) agrees) e)
          (refuses_one error name (contents (0 + length texts) name) is (subst (λ n. Fits largest_input (answer_by error) (contents n name)) here fits.0));
    }
      where
        last : Question
        last = record { name = name; answer = answer_by error }

        by_error : (error : FileError) → IsOfName name error
            → EndsReading {A = ⊤} names (Err error) (questions_of texts ++ record { name = name; answer = answer_by error } ∷ [])
        by_error (unread.Missing other) is = (record { front = questions_of texts; last = record { name = name; answer = NoFile }; are = refl; is = refl }, sym is)
        by_error unread.TooLarge is = record { front = questions_of texts; last = record { name = name; answer = OverLimit }; are = refl; is = refl }
        by_error unread.Fault is = record { front = questions_of texts; last = record { name = name; answer = Unanswered }; are = refl; is = refl }
        by_error _ is = tt

-- all were read
pub reads_all : {A : Type 0} (texts : List FileText) (s t : ShelfState) → ReadSoFar texts s t → (see : A → List (List ℕ × List ℕ)) (value : A) (names : List (List ℕ))
    → see value ≡ model_of_texts texts → names_in texts ≡ names → Reads see names (Ok value) s t
reads_all texts s t so_far see value names seen are = record {
  questions = questions_of texts;
  dialogue = record {
    turns = turns_of names [] texts [] (sym are ∙ sym (append-nil (names_in texts)));
    few = omega (arith, ap length are, length-map (questions_of texts) (λ (question : Question). question.name));
    reads = so_far.reads;
    files = so_far.files;
  };
  ends = are;
  gives = λ contents agrees. ap (read_by contents 0) (sym are) ∙ (all_read contents 0 texts agrees ∙ ap Ok (sym seen));
}

pub names_more : (texts : List FileText) (text : FileText) → names_in (texts ++ text ∷ []) ≡ names_in texts ++ text.name ∷ []
names_more texts text =
    ap names_of (map-append question_of texts (text ∷ []))
    ∙ map-append (λ (question : Question). question.name) (questions_of texts) (question_of text ∷ [])

-- names of which some were taken: those, the next and the others
pub next_name : (names front : List (List ℕ)) (i : ℕ) (name : List ℕ) → i < length names → name ≡ get_or names i name → front ≡ take i names
    → names ≡ front ++ name ∷ drop (i + 1) names
next_name names front i name inside is taken =
    sym (take-append-drop i names)
    ∙ (ap (λ (rest : List (List ℕ)). take i names ++ rest) (drop_more names i name inside ∙ ap (λ (x : List ℕ). x ∷ drop (i + 1) names) (sym is))
    ∙ ap (λ front. front ++ name ∷ drop (i + 1) names) (sym taken))

-- an error that comes of a refused growth
pub memory_ran_out : {A : Type 0} (s u : ShelfState) (names : List (List ℕ)) (see : A → List (List ℕ × List ℕ)) (result : Result A FileError)
    → IsErrAnd result (λ error. error ≡ unread.Memory) → Reads see names (Err unread.Memory) s u → Reads see names result s u
memory_ran_out s u names see (Ok value) is reads = absurd is
memory_ran_out s u names see (Err error) is reads = subst (λ error. Reads see names (Err error) s u) (sym is) reads

-- what an error says of the shelf holds since an earlier one
module _ (a b c : ShelfState) (later : CountsGrew a b) (within : ReadWithinLimit largest_input a b) where
  pub causes_since : (error : FileError) → FileCauses largest_input error b c → FileCauses largest_input error a c
  causes_since (unread.Missing name) causes = (λ top. omega (arith, later.misses, causes.0 top), within_then largest_input a b c within causes.1)
  causes_since unread.TooLarge causes = record { given = causes.given; largest = causes.largest; taken = omega (arith, later.taken, causes.taken) }
  causes_since unread.Fault causes = (λ top. omega (arith, later.faults, causes.0 top), within_then largest_input a b c within causes.1)
  causes_since unread.Memory causes = within_then largest_input a b c within causes
