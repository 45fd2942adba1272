pub mod PieceFacts
