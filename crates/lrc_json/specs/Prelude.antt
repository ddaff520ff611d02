-- The words that contracts name, passed on from one place. Declares nothing.
pub use Rattle.lrc_json.specs.PutTogether.{AddedItems, AreItemsAdded, AreLinesPut, AreMembersNow, AreMoreLinesPut, BecameMembers, HasItems, HasMembers, IsLineAdded, IsLinePut, IsListAdded, IsListPut, IsObjectAdded, IsObjectPut, IsValueAdded, IsValuePut}
pub use Rattle.lrc_json.specs.PutTogether.{items_so_far, json_count, json_line, json_list, json_number, json_telling, members_so_far}
pub use Rattle.lrc_json.specs.SampledJson.{json_of_sample, json_owner, json_replies, json_replies_by, json_result_line, json_sampled_result, json_sampled_summary, json_word, sampled_words_by, with_sampled_answers, with_sampled_outcome}
pub use Rattle.lrc_json.specs.EventJson.{json_event, json_events, json_place, with_access_event, with_event, with_event_kind, with_fetch_event, with_label, with_numbered_event}
pub use Rattle.lrc_json.specs.CheckedJson.{HasLieMembers, IsCheckedJson, IsLieLine, json_access, json_checked_end, json_circles, json_lie_at, json_model, json_first_race, json_race, json_races, json_stores, json_told_event, json_told_race, json_traffic, json_unprotected, json_unprotected_lines, json_wait, json_waits}
pub use Rattle.lrc_json.specs.CheckedJson.{with_apart, with_guarded, with_known_event, with_number_if, with_racing, with_racing_access, with_verdict, with_waits}
