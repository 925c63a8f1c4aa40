-- A COPY line.
use Rattle.std.proofs.Common.{◌≡◌, ℕ, zero, suc, ◌+◌, ◌-◌, ◌<◌, ◌≤◌, true, false, List, [], ◌∷◌, ◌++◌, Some, None, Err, length, refl, sym, ap, ◌∙◌, subst}
use Rattle.std.proofs.Common.{arith, append-nil, inl}
use Rattle.std.specs.Prelude.{Option, Ok, nat_lt, nat_le}
use Rattle.std.specs.Option.{ok_or}
use Rattle.std.proofs.lemmas.Bool.Decides.{nat_tests}
use Rattle.source_defs.specs.Refusals.{◌>>=◌, unless}
use Rattle.source_defs.specs.Lines.{numbered, line_texts}
use Rattle.expression_defs.specs.Layout.{line_layout}
use Rattle.asm_defs.specs.Locations.{Line}
use Rattle.asm_defs.specs.FirstChecks.{check}
use Rattle.shelf_defs.specs.Files.{Contents}
use Rattle.shelf_defs.specs.Copied as spec
use Rattle.shelf_defs.specs.Copied.{PlacedLine, CopyRefusal, Refused, Copied, lines_in, copy_line, refused, most_bytes, most_copies, prepend}
use Rattle.shelf_defs.specs.Assembly.{texts, in_place, unless_refused, layout_copied}
use Rattle.bench_shelf.specs.declared.error.FileError.{FileError}
use Rattle.bench_shelf.specs.declared.error.FileError.TheVariants as unread
use Rattle.bench_shelf.specs.declared.place.Place.{Place}
use Rattle.bench_shelf.specs.declared.copying.Copying.{Copying}
use Rattle.bench_shelf.specs.declared.copy_error.CopyError.{CopyError}
use Rattle.bench_shelf.specs.declared.copy_error.CopyCause.{CopyCause}
use Rattle.bench_shelf.specs.declared.copy_error.CopyCause.TheVariants as cause
use Rattle.bench_shelf.specs.CopyAnswers.{CopyRefuses, IsNoMemory, model_of_cause, model_of_place, refused_at, unread_at}
use Rattle.shelf_defs.specs.Questions.{FileAnswer, Bytes, Unanswered, Question, Agrees, Fits}
use Rattle.bench_shelf.specs.Leading.{Holds, CopiesTo, LeadsTo, Copies, Asking, EndsBy}
use Rattle.bench_shelf.specs.Causes.{AsksOne, answer_by, IsOfName}
use Rattle.bench_shelf.specs.States.{ShelfState}
use Rattle.bench_shelf.proofs.StoppingLaws.{reported_if}
use Rattle.bench_shelf.proofs.AskingLaws.{agrees_front, none_follow, shown_one, asking_then, ends_then, asking_none}

-- what is refused after lines that were taken
pub leads_refusal : (old last : Copying) (copies : ℕ) (refusal : CopyRefusal) (error : CopyError) → CopyRefuses {B = List Line} error (Err refusal)
    → ((done : List PlacedLine) → Holds done old → Holds done last) → CopiesTo old (refused copies refusal) (Some error) last
leads_refusal old last copies refusal error refuses same done holds =
    let none : done ++ [] ≡ done = append-nil done in
    let whole : layout_copied (prepend done (refused copies refusal)) ≡ Err refusal =
    ap (λ all. in_place all (line_layout check (numbered 1 (texts all))) >>= λ lines. unless_refused (Refused refusal) lines) none
    ∙ ap (λ answer. in_place done answer >>= λ lines. unless_refused (Refused refusal) lines) holds.taken.line_layout in (
      subst (CopyRefuses error) (sym whole) refuses,
      reported_if _ error (record { taken = done; holds = same done holds; halts = inl (none, tt) }),
    )

-- a COPY line for which no file is asked; its error has the place of the line
pub refuses_none : (old : Copying) (found : Contents → Copied) (place : Place) (refusal : spec.Cause) (kept : CopyCause) (error : CopyError) (s : ShelfState)
    → model_of_cause kept ≡ refusal → IsNoMemory kept → error ≡ refused_at place kept
    → ((contents : Contents) → found contents ≡ refused old.copies (spec.At (model_of_place place) refusal)) → Copies old old found (Some error) s s
refuses_none old found place refusal kept error s same memory is refuses =
    subst (λ error. Copies old old found (Some error) s s) (sym is) (record {
      questions = [];
      asking = asking_none old old found s refl;
      ends = tt;
      leads = λ contents agrees.
          subst (λ found. CopiesTo old found (Some (refused_at place kept)) old) (sym (refuses contents))
          (leads_refusal old old old.copies (spec.At (model_of_place place) refusal) (refused_at place kept)
          (memory, ap (λ refusal. Err (spec.At (model_of_place place) refusal)) (sym same)) (λ done holds. holds));
    })

-- the outcome of a file's COPY line, by the file's bytes, if there are any
abbrev pub copied_file : (spec.Place → ℕ → List ℕ → Copied) → spec.Place → ℕ → List ℕ → Option (List ℕ) → Copied
copied_file copy place copies name found = spec.either (do
  bytes ← ok_or found (refused (copies + 1) (spec.At place (spec.Missing name)))
  bytes ← unless (nat_lt most_bytes (length bytes)) (refused (copies + 1) spec.TooLarge) bytes
  Ok (lines_in copy (Some name) (copies + 1) (line_texts bytes)))

module _ (contents : Contents) (place : spec.Place) (copies : ℕ) (name : List ℕ) where
  -- a COPY line that may be followed
  pub copy_more : (levels : ℕ) → 0 < levels → copies < 64
      → copy_line contents levels place copies name ≡ copied_file (copy_line contents (levels - 1)) place copies name (contents copies name)
  copy_more zero some few = absurd (omega (arith, some))
  copy_more (suc levels) some few =
      let less : nat_le most_copies copies ≡ false = grind (arith, nat_tests, few) in
      let back : suc levels - 1 ≡ levels = omega arith in
      rw (less, back) refl

  pub too_many : (levels : ℕ) → 0 < levels → 64 ≤ copies → copy_line contents levels place copies name ≡ refused copies (spec.At place spec.TooMany)
  too_many zero some few = absurd (omega (arith, some))
  too_many (suc levels) some few =
      let more : nat_le most_copies copies ≡ true = grind (arith, nat_tests, few) in
      rw more refl

module _ (old last : Copying) (contents : Contents) (levels : ℕ) (place : Place) (name : List ℕ) where
  abbrev found_by : Option (List ℕ) → Copied
  found_by found = copied_file (copy_line contents levels) (model_of_place place) old.copies name found

  -- which ends the copying
  leads_out : (error : CopyError) (answer : Option (List ℕ)) (refusal : CopyRefusal) → ((done : List PlacedLine) → Holds done old → Holds done last)
      → found_by answer ≡ refused (old.copies + 1) refusal → CopyRefuses {B = List Line} error (Err refusal) → CopiesTo old (found_by answer) (Some error) last
  leads_out error answer refusal same found refuses =
      subst (λ found. CopiesTo old found (Some error) last) (sym found) (leads_refusal old last (old.copies + 1) refusal error refuses same)

  -- its file was not read
  pub leads_not_read : (error : FileError) (answer : Option (List ℕ)) → ((done : List PlacedLine) → Holds done old → Holds done last)
      → IsOfName name error → Fits most_bytes (answer_by error) answer → CopiesTo old (found_by answer) (Some (unread_at place error)) last
  leads_not_read (unread.Missing other) answer same is fits =
      leads_out (unread_at place (unread.Missing other)) answer (spec.At (model_of_place place) (spec.Missing name)) same (ap found_by fits)
      (tt, ap (λ name. Err (spec.At (model_of_place place) (spec.Missing name))) (sym is))
  leads_not_read unread.TooLarge answer same is fits =
      let size : most_bytes < length fits.0 = fits.2 in
      let more : nat_lt most_bytes (length fits.0) ≡ true = grind (arith, nat_tests, size) in
      leads_out (unread_at place unread.TooLarge) answer spec.TooLarge same (rw (fits.1, more) refl) refl
  leads_not_read _ answer same is fits = λ done holds. (tt, tt)

  -- or it was, and its lines are taken
  pub leads_read : (mid : Copying) (bytes : List ℕ) (answer : Option (List ℕ)) (error_in : Option CopyError) → answer ≡ Some bytes → length bytes ≤ most_bytes
      → ((done : List PlacedLine) → Holds done old → Holds done mid) → mid.copies ≡ old.copies + 1
      → CopiesTo mid (lines_in (copy_line contents levels) (Some name) mid.copies (line_texts bytes)) error_in last
      → CopiesTo old (found_by answer) error_in last
  leads_read mid bytes answer error_in reads size same copies leads done holds =
      let few : nat_lt most_bytes (length bytes) ≡ false = grind (arith, nat_tests, size) in
      let found : found_by answer ≡ lines_in (copy_line contents levels) (Some name) (old.copies + 1) (line_texts bytes) = rw (reads, few) refl in
      let more = subst (λ copies. LeadsTo error_in done (lines_in (copy_line contents levels) (Some name) copies (line_texts bytes)) last) copies
      (leads done (same done holds)) in
      subst (λ found. LeadsTo error_in done found last) (sym found) more

-- A COPY line, by what is heard of its file.
module _ (old : Copying) (levels : ℕ) (place : Place) (name : List ℕ) (some : 0 < levels) (s : ShelfState) where
  abbrev line_by : Contents → Copied
  line_by contents = copy_line contents levels (model_of_place place) old.copies name

  pub many_copies : (error : CopyError) → 64 ≤ old.copies → error ≡ refused_at place cause.TooMany → Copies old old line_by (Some error) s s
  many_copies error many is =
      refuses_none old line_by place spec.TooMany cause.TooMany error s refl tt is
      (λ contents. too_many contents (model_of_place place) old.copies name levels some many)

  module _ (few : old.copies < 64) where
    abbrev question : FileAnswer → Question
    question answer = record { name = name; answer = answer }

    by_more : (contents : Contents) (error : Option CopyError) (last : Copying)
        → CopiesTo old (found_by old last contents (levels - 1) place name (contents old.copies name)) error last → CopiesTo old (line_by contents) error last
    by_more contents error last leads = subst (λ found. CopiesTo old found error last) (sym (copy_more contents (model_of_place place) old.copies name levels some few)) leads

    not_read : (contents : Contents) (error : FileError) (last : Copying) → ((done : List PlacedLine) → Holds done old → Holds done last)
        → IsOfName name error → Fits most_bytes (answer_by error) (contents old.copies name) → CopiesTo old (line_by contents) (Some (unread_at place error)) last
    not_read contents error last same is fits =
        by_more contents (Some (unread_at place error)) last (leads_not_read old last contents (levels - 1) place name error (contents old.copies name) same is fits)

    asking_first : (mid : Copying) (t : ShelfState) (answer : FileAnswer) → mid.copies ≡ old.copies + 1 → AsksOne most_bytes name answer s t
        → Asking old mid line_by (question answer ∷ []) s t
    asking_first mid t answer copies asks = record {
      number = omega (arith, copies);
      turns = (
        (
          model_of_place place,
          λ contents agrees none.
              let at : old.copies + length {A = Question} [] ≡ old.copies = omega arith in
              (old, not_read contents (unread.Missing name) old (λ done holds. holds) refl (subst (λ n. contents n name ≡ None) at none)),
        ),
        none_follow answer,
        tt,
      );
      files = shown_one most_bytes s.files name answer asks.fits;
      reads = asks.reads;
    }

    unheard : (error : FileError) → EndsBy (Some (unread_at place error)) (question (answer_by error) ∷ [])
    unheard unread.Fault = record { front = []; last = question Unanswered; are = refl; is = refl }
    unheard _ = tt

    -- its file was not read
    pub copies_unread : (last : Copying) (t : ShelfState) (error : FileError) (error_is : CopyError) → error_is ≡ unread_at place error → last.copies ≡ old.copies + 1
        → AsksOne most_bytes name (answer_by error) s t → IsOfName name error → ((done : List PlacedLine) → Holds done old → Holds done last)
        → Copies old last line_by (Some error_is) s t
    copies_unread last t error error_is is copies asks of same =
        subst (λ error. Copies old last line_by (Some error) s t) (sym is) (record {
          questions = question (answer_by error) ∷ [];
          asking = asking_first last t (answer_by error) copies asks;
          ends = unheard error;
          leads = λ contents agrees. not_read contents error last same of agrees.0;
        })

    ends_by : (bytes : List ℕ) (error_in : Option CopyError) (questions : List Question) → EndsBy error_in questions → EndsBy error_in (question (Bytes bytes) ∷ [] ++ questions)
    ends_by bytes None questions given = (tt, given)
    ends_by bytes (Some error) questions given = ends_then error (question (Bytes bytes) ∷ []) questions given

    -- or it was, and its lines were taken, or one is refused
    module _ (mid last : Copying) (t u : ShelfState) (bytes : List ℕ) (copies : mid.copies ≡ old.copies + 1) (asks : AsksOne most_bytes name (Bytes bytes) s t) (size : length bytes ≤ most_bytes)
        (holds : (done : List PlacedLine) → Holds done old → Holds done mid) where
      abbrev inner : List ℕ → Contents → Copied
      inner text contents = lines_in (copy_line contents (levels - 1)) (Some name) mid.copies (line_texts text)

      on : (contents : Contents) → Agrees most_bytes contents old.copies (question (Bytes bytes) ∷ []) → (error : Option CopyError) (end : Copying)
          → CopiesTo mid (inner bytes contents) error end → CopiesTo old (line_by contents) error end
      on contents agrees error end leads =
          by_more contents error end (leads_read old end contents (levels - 1) place name mid bytes (contents old.copies name) error agrees.0 size holds copies leads)

      joined : (error_in : Option CopyError) → Copies mid last (inner bytes) error_in t u → Copies old last line_by error_in s u
      joined error_in found = record {
        questions = question (Bytes bytes) ∷ [] ++ found.questions;
        asking = asking_then old mid line_by (inner bytes) (question (Bytes bytes) ∷ []) (omega (arith, copies))
            (λ contents agrees error. on contents agrees (Some error)) last s t u found.questions (tt, tt)
            (asking_first mid t (Bytes bytes) copies asks) found.asking;
        ends = ends_by bytes error_in found.questions found.ends;
        leads = λ contents agrees. on contents (agrees_front most_bytes contents old.copies (question (Bytes bytes) ∷ []) found.questions agrees) error_in last
            (found.leads contents (subst (λ n. Agrees most_bytes contents n found.questions) (sym copies) agrees.1));
      }

      pub copies_read : (text : List ℕ) (error_in : Option CopyError) → text ≡ bytes → Copies mid last (inner text) error_in t u
          → Copies old last line_by error_in s u
      copies_read text error_in is found = joined error_in (subst (λ text. Copies mid last (inner text) error_in t u) is found)

-- a COPY line that stands too deep
deep_by : (contents : Contents) (levels : ℕ) (place : spec.Place) (copies : ℕ) (name : List ℕ) → levels ≡ 0
    → copy_line contents levels place copies name ≡ refused copies (spec.At place spec.TooDeep)
deep_by contents zero place copies name none = refl
deep_by contents (suc levels) place copies name none = absurd (omega (arith, none))

pub deep_copies : (old : Copying) (levels : ℕ) (place : Place) (name : List ℕ) (s : ShelfState) (error : CopyError) → levels ≡ 0 → error ≡ refused_at place cause.TooDeep
    → Copies old old (λ contents. copy_line contents levels (model_of_place place) old.copies name) (Some error) s s
deep_copies old levels place name s error none is =
    refuses_none old (λ contents. copy_line contents levels (model_of_place place) old.copies name) place spec.TooDeep cause.TooDeep error s refl tt is
    (λ contents. deep_by contents levels (model_of_place place) old.copies name none)
