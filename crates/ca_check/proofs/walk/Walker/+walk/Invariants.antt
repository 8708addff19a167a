use Rattle.std.proofs.Common.{◌≡◌, ◌≤◌, ◌+◌, ◌*◌, ◌++◌, length, map, take, drop}
use Rattle.ca_value.specs.Seq.{list, spare}
use Rattle.ca_term.specs.View.{kernels}
use Rattle.ca_forms.specs.Outcome.{after_walk, done}
use Rattle.ca_forms.specs.Binders.{spread}
use Rattle.ca_forms.specs.Judged.{bound_names, total_bounds}
use Rattle.ca_forms.specs.Meaning.{means_in_order, binds, bindings_joined, numbered, unnamed}
use Rattle.ca_forms.specs.Plain.{meanings}
use Rattle.ca_forms.specs.WalkView.{gathered, env, form_parts, form_pairs, terms_of}
use Rattle.ca_check.specs.Choices.{tested, choice_terms}
use Rattle.ca_forms.proofs.TermLaws.{followed}
use Rattle.ca_check.proofs.walk.Walker.+walk.Given as goal

abbrev pub invariant-in_order-loop-i : goal.invariant-in_order-loop-i
invariant-in_order-loop-i l = record {
  same : means_in_order (meanings (form_parts (drop l.from l.parts))) (env l.fn.self.scope l.functions l.at) (gathered l.fn.self.gathered)
      ≡ after_walk (means_in_order (meanings (form_parts (drop l.i l.parts))) (env l.fn.self.scope l.functions l.at) (gathered l.self.gathered)) (λ ts s. done (followed (kernels (list l.terms)) ts) s);
  names : l.self.scope ≡ l.fn.self.scope;
  room : length l.parts ≤ spare l.terms + l.i;
}

abbrev pub invariant-bound_values-loop-i : goal.invariant-bound_values-loop-i
invariant-bound_values-loop-i l = record {
  same : binds (spread l.place (length l.fn.self.scope) (total_bounds (form_pairs l.items))) (env l.fn.self.scope l.functions l.at) (gathered l.fn.self.gathered)
      ≡ after_walk (binds (spread l.place (length l.self.scope) (total_bounds (form_pairs (drop (2 * l.i) l.items)))) (env l.self.scope l.functions l.at) (gathered l.self.gathered)) (λ bs s. done (bindings_joined (numbered (length l.fn.self.scope) (terms_of (list l.values))) bs) s);
  names : l.self.scope ++ bound_names (spread l.place (length l.self.scope) (total_bounds (form_pairs (drop (2 * l.i) l.items)))) ≡ l.fn.self.scope ++ bound_names (spread l.place (length l.fn.self.scope) (total_bounds (form_pairs l.items)));
  longer : length l.self.scope ≡ length l.fn.self.scope + length (list l.values);
  half : 2 * l.count ≤ length l.items;
}

abbrev pub invariant-hidden-loop-i : goal.invariant-hidden-loop-i
invariant-hidden-loop-i l = record {
  same : binds (map unnamed (meanings (form_parts (drop l.from (take l.to l.parts))))) (env l.fn.self.scope l.functions l.at) (gathered l.fn.self.gathered)
      ≡ after_walk (binds (map unnamed (meanings (form_parts (drop l.i (take l.to l.parts))))) (env l.self.scope l.functions l.at) (gathered l.self.gathered)) (λ bs s. done (bindings_joined (numbered (length l.fn.self.scope) (terms_of (list l.values))) bs) s);
  names : l.self.scope ++ bound_names (map unnamed (meanings (form_parts (drop l.i (take l.to l.parts))))) ≡ l.fn.self.scope ++ bound_names (map unnamed (meanings (form_parts (drop l.from (take l.to l.parts)))));
  longer : length l.self.scope ≡ length l.fn.self.scope + length (list l.values);
}

abbrev pub invariant-tested-loop-i : goal.invariant-tested-loop-i
invariant-tested-loop-i l = record {
  same : tested (meanings (form_parts (drop 1 l.parts))) (env l.fn.self.scope l.functions l.at) (gathered l.fn.self.gathered)
      ≡ after_walk (tested (meanings (form_parts (drop (2 * l.i + 1) l.parts))) (env l.fn.self.scope l.functions l.at) (gathered l.self.gathered)) (λ cs s. done (choice_terms (list l.choices) ++ cs) s);
  names : l.self.scope ≡ l.fn.self.scope;
  half : 2 * l.count + 1 ≤ length l.parts;
  whole : length l.parts ≤ 2 * l.count + 2;
}
