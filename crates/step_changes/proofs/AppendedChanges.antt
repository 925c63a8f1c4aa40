-- The changes of a list of bytes, appended to a line one after the other.
use Rattle.std.proofs.Common.{◌≡◌, ℕ, ◌+◌, ◌*◌, ◌≤◌, List, [], ◌∷◌, ◌++◌, length, refl, sym, ap, ◌∙◌}
use Rattle.std.proofs.Common.{append_assoc, append-nil, length-append, arith}
use Rattle.change_defs.specs.Changes.{Change, changes, applied}
use Rattle.change_defs.proofs.Lead.{changes_lead}
use Rattle.change_defs.specs.Text.{change_text, change_texts}
use Rattle.step_changes.specs.Scan.{left_from}

-- the line has the changes before a place
pub record Appending (place : ℕ → List ℕ) (before now begun line : List ℕ) (at : ℕ) : Type 0 where
  pub done : List ℕ
  pub text : line ≡ begun ++ done
  pub is : change_texts place 0 (changes before now) ≡ done ++ change_texts place at (left_from before now at)
  pub within : at ≤ length now
  pub size : length line ≤ length begun + 16 * at

module _ (place : ℕ → List ℕ) (before now : List ℕ) where
  pub append_none : (line : List ℕ) → Appending place before now line line 0
  append_none line = record {
    done = [];
    text = sym (append-nil line);
    is = refl;
    within = omega arith;
    size = omega arith;
  }

  pub append_more : (begun line line' : List ℕ) (at : ℕ) (c : Change) (end : ℕ)
      → Appending place before now begun line at
      → left_from before now at ≡ c ∷ left_from before now end → end ≡ c.at + c.count → at + 1 ≤ end → end ≤ length now
      → line' ≡ line ++ change_text place at c → length (change_text place at c) ≤ 16
      → Appending place before now begun line' end
  append_more begun line line' at c end so first ends on le grown short =
      let text = change_text place at c in
      record {
        done = so.done ++ text;
        text = grown ∙ ap (λ l. l ++ text) so.text ∙ append_assoc begun so.done text;
        is = so.is ∙ ap (λ cs. so.done ++ change_texts place at cs) first
            ∙ ap (λ k. so.done ++ (text ++ change_texts place k (left_from before now end))) (sym ends)
            ∙ sym (append_assoc so.done text (change_texts place end (left_from before now end)));
        within = le;
        size = let long = ap (λ (l : List ℕ). length l) grown ∙ length-append line text in omega (arith, long, so.size);
      }

-- a part in which no change was found is as it was
pub unchanged : (before now : List ℕ) (at : ℕ) → length before ≡ length now → at ≡ 0 → left_from before now at ≡ [] → before ≡ now
unchanged before now at same none nothing =
    let all : changes before now ≡ [] = ap (λ k. left_from before now k) (sym none) ∙ nothing in
    ap (λ cs. applied cs before) (sym all) ∙ changes_lead before now same
