-- The words that contracts name, passed on from one place. Declares nothing.
pub use Rattle.lrc_explain.specs.ExplainTexts.{explain_text_end, IsExplainText, ExplainTextUnwritten, ExplainTextWritten, IsExplainTextBefore, ExplainTextOfTraceWritten}
